-- A fold of operations has the cells of the definition.
use Rattle.std.proofs.Common.{◌≡◌, ℕ, ◌+◌, Bool, true, false, cond, ◌&&◌, ◌⊎◌, inl, inr, Option, Some, None, is_some, List, [], ◌∷◌, fold, arith, refl, sym, ap, ◌∙◌}
use Rattle.std.specs.Prelude.{ℤ, ◌+ℤ◌, ◌-ℤ◌, pos, negsuc, int_lt}
use Rattle.std.proofs.lemmas.Int.{ints}
use Rattle.std.proofs.lemmas.Bool.{cases_Bool}
use Rattle.std.proofs.lemmas.List.Sums.{fold-append}
use Rattle.std.specs.Option.{unwrap_or}
use Rattle.std.specs.Ordering.{eq_by_cmp, is_eq, ordering_then}
use Rattle.std.specs.declared.cmp.Ordering.{Ordering}
use Rattle.std.specs.declared.cmp.Ordering.TheVariants.{Less, Equal, Greater}
use Rattle.std.specs.FinMap.{empty, get-empty}
use Rattle.ids_core.specs.Orders.{name_cmp, id_cmp}
use Rattle.ids_core.specs.declared.ids.OpId.{OpId}
use Rattle.ids_core.specs.declared.ids.Mark.{Mark}
use Rattle.tally_core.specs.declared.place.Place.{Place}
use Rattle.tally_core.specs.Places.{place, place_cmp, same_name, same_id}
use Rattle.tally_core.specs.Cells.{Tallied, cell, cell_at, nothing, is_nothing, turned, turn, lowers, raises}
use Rattle.tally_core.specs.Changes.{Change, step, adds, times, holds, added, held, tally_of, kept_of, or_else, IsTallyOf}
use Rattle.tally_core.proofs.Places.{place_cmp_total, place_cmp_same}
use Rattle.tally_core.proofs.Sparse.{at-change, is_same}
use Rattle.tally_core.proofs.Kept.{nothing_is}

both_eq : (r s : Ordering) → is_eq (ordering_then r s) ≡ (is_eq r && is_eq s)
both_eq Less s = refl
both_eq Equal s = refl
both_eq Greater s = refl

same_places : (name other : List ℕ) (id j : OpId) → eq_by_cmp place_cmp (place name id) (place other j) ≡ (same_name name other && same_id id j)
same_places name other id j = both_eq (name_cmp name other) (id_cmp id j)

module _ {P : Type 0} where
  -- turned cells of the definition
  lowered_cell : (n : ℤ) (k : Option P) → turned None (cell n k) ≡ cell (n -ℤ pos 1) k
  lowered_cell n k = at (cases_Bool (int_lt (pos 0) n))
    where
      less : n +ℤ negsuc 0 ≡ n -ℤ pos 1
      less = omega (arith, ints)

      at : (int_lt (pos 0) n ≡ true) ⊎ (int_lt (pos 0) n ≡ false) → cell (n +ℤ negsuc 0) (cond (int_lt (pos 0) n) k None) ≡ cell (n -ℤ pos 1) k
      at (inl t) = rw t (ap (λ m. cell m k) less)
      at (inr f) = let low : int_lt (pos 0) (n -ℤ pos 1) ≡ false = grind (arith, ints) in rw (f, less, low) refl

  turn-at : (m : Tallied P) (c : Place × Option P) (q : Place) → cell_at (turn m c) q ≡ cond (eq_by_cmp place_cmp q c.0) (turned c.1 (cell_at m c.0)) (cell_at m q)
  turn-at m c q = at-change nothing is_nothing place_cmp_total place_cmp_same nothing_is m c.0 (turned c.1) q

  -- the same cell, where a turn is at the place; else it stays
  turn-cell : (m : Tallied P) (c : Place × Option P) (q : Place) (b : Bool) → eq_by_cmp place_cmp q c.0 ≡ b → cell_at (turn m c) q ≡ cond b (turned c.1 (cell_at m q)) (cell_at m q)
  turn-cell m c q true t = turn-at m c q ∙ rw t (ap (λ p. turned c.1 (cell_at m p)) (sym (is_same place_cmp_same q c.0 t)))
  turn-cell m c q false f = turn-at m c q ∙ rw f refl

  -- after the identifiers of a list are lowered
  lowered : (name other : List ℕ) (id : OpId) (over : List OpId) (m : Tallied P) (n : ℤ) (k : Option P) → cell_at m (place name id) ≡ cell n k → cell_at (fold turn m (lowers other over)) (place name id) ≡ cell (n -ℤ pos (cond (same_name name other) (times id over) 0)) k
  lowered name other id [] m n k is = is ∙ ap (λ n. cell n k) (none (same_name name other))
    where
      none : (b : Bool) → n ≡ n -ℤ pos (cond b 0 0)
      none true = omega (arith, ints)
      none false = omega (arith, ints)
  lowered name other id (j ∷ over) m n k is = at (same_name name other) (same_id id j) refl refl (λ d. lowered name other id over (turn m (place other j, None)) d k)
    where
      q : Place
      q = place name id

      t : Tallied P
      t = turn m (place other j, None)

      at : (b c : Bool) → same_name name other ≡ b → same_id id j ≡ c → ((d : ℤ) → cell_at t q ≡ cell d k → cell_at (fold turn t (lowers other over)) q ≡ cell (d -ℤ pos (cond (same_name name other) (times id over) 0)) k) → cell_at (fold turn t (lowers other over)) q ≡ cell (n -ℤ pos (cond b (cond c 1 0 + times id over) 0)) k
      at true true b c rest =
          let here : cell_at t q ≡ cell (n -ℤ pos 1) k = turn-cell m (place other j, None) q true (same_places name other id j ∙ rw (b, c) refl) ∙ (ap (turned None) is ∙ lowered_cell n k) in
          let h = times id over in
          let sum : (n -ℤ pos 1) -ℤ pos h ≡ n -ℤ pos (1 + h) = omega (arith, ints) in
          rest (n -ℤ pos 1) here ∙ ap (λ n. cell n k) (ap (λ b. (n -ℤ pos 1) -ℤ pos (cond b (times id over) 0)) b ∙ sum)
      at true false b c rest =
          let here : cell_at t q ≡ cell n k = turn-cell m (place other j, None) q false (same_places name other id j ∙ rw (b, c) refl) ∙ is in
          let h = times id over in
          let none : h ≡ 0 + h = omega arith in
          rest n here ∙ (ap (λ b. cell (n -ℤ pos (cond b (times id over) 0)) k) b ∙ ap (λ h. cell (n -ℤ pos h) k) none)
      at false c b e rest =
          let here : cell_at t q ≡ cell n k = turn-cell m (place other j, None) q false (same_places name other id j ∙ rw b refl) ∙ is in
          rest n here ∙ ap (λ b. cell (n -ℤ pos (cond b (times id over) 0)) k) b

  -- after one rise, where there is one
  raised : (name other : List ℕ) (id i : OpId) (add : Option P) (m : Tallied P) (n : ℤ) (k : Option P) → cell_at m (place name id) ≡ cell n k → cell_at (fold turn m (raises other i add)) (place name id) ≡ cell (n +ℤ pos (cond (same_name name other && (is_some add && same_id id i)) 1 0)) (or_else (cond (same_name name other && (is_some add && same_id id i)) add None) k)
  raised name other id i None m n k is = at (same_name name other)
    where
      stays : n ≡ n +ℤ pos 0
      stays = omega (arith, ints)

      at : (b : Bool) → cell_at m (place name id) ≡ cell (n +ℤ pos (cond (b && false) 1 0)) (or_else (cond (b && false) None None) k)
      at true = is ∙ ap (λ n. cell n k) stays
      at false = is ∙ ap (λ n. cell n k) stays
  raised name other id i (Some p) m n k is = at (same_name name other && same_id id i) (same_places name other id i)
    where
      stays : n ≡ n +ℤ pos 0
      stays = omega (arith, ints)

      at : (b : Bool) → eq_by_cmp place_cmp (place name id) (place other i) ≡ b → cell_at (turn m (place other i, Some p)) (place name id) ≡ cell (n +ℤ pos (cond b 1 0)) (or_else (cond b (Some p) None) k)
      at true t = turn-cell m (place other i, Some p) (place name id) true t ∙ ap (λ c. turned (Some p) c) is
      at false f = turn-cell m (place other i, Some p) (place name id) false f ∙ (is ∙ ap (λ n. cell n k) stays)

  module _ {O : Type 0} (does : (Mark × O) → Change P) (name : List ℕ) (id : OpId) where
    after : (m : Tallied P) (op : Mark × O) (n : ℤ) (k : Option P) → cell_at m (place name id) ≡ cell n k → cell_at (step does m op) (place name id) ≡ cell ((n +ℤ pos (cond (adds does name id op) 1 0)) -ℤ pos (holds does name id op)) (or_else (cond (adds does name id op) (does op).add None) k)
    after m op n k is =
        let c = does op in
        ap (λ m. cell_at m (place name id)) (fold-append turn m (raises c.name op.0.id c.add) (lowers c.name c.over)) ∙ lowered name c.name id c.over _ _ _ (raised name c.name id op.0.id c.add m n k is)

    all : (ops : List (Mark × O)) (m : Tallied P) (n : ℤ) (k : Option P) → cell_at m (place name id) ≡ cell n k → cell_at (fold (step does) m ops) (place name id) ≡ cell (n +ℤ tally_of does name id ops) (or_else (kept_of does name id ops) k)
    all [] m n k is = is ∙ ap (λ n. cell n k) none
      where
        none : n ≡ n +ℤ (pos 0 -ℤ pos 0)
        none = omega (arith, ints)
    all (op ∷ ops) m n k is =
        let a = cond (adds does name id op) 1 0 in let h = holds does name id op in
        let as' = added does name id ops in let hs = held does name id ops in
        let own = cond (adds does name id op) (does op).add None in
        let sum : ((n +ℤ pos a) -ℤ pos h) +ℤ (pos as' -ℤ pos hs) ≡ n +ℤ (pos (a + as') -ℤ pos (h + hs)) = omega (arith, ints) in
        all ops (step does m op) _ _ (after m op n k is) ∙ (ap (λ n. cell n (or_else (kept_of does name id ops) (or_else own k))) sum ∙ ap (cell _) (twice (kept_of does name id ops) own))
      where
        twice : (x y : Option P) → or_else x (or_else y k) ≡ or_else (or_else x y) k
        twice None y = refl
        twice (Some p) y = refl

  pub fold_defined : {O : Type 0} (does : (Mark × O) → Change P) (ops : List (Mark × O)) → IsTallyOf does ops (fold (step does) empty ops)
  fold_defined does ops = record { each = λ name id. all does name id ops empty (pos 0) None (ap (λ o. unwrap_or o nothing) (get-empty place_cmp (place name id))) ∙ end (tally_of does name id ops) (kept_of does name id ops) }
    where
      end : (n : ℤ) (k : Option P) → cell (pos 0 +ℤ n) (or_else k None) ≡ cell n k
      end n k = ap (λ n. cell n (or_else k None)) (omega (arith, ints)) ∙ ap (cell n) (same k)
        where
          same : (k : Option P) → or_else k None ≡ k
          same None = refl
          same (Some p) = refl
