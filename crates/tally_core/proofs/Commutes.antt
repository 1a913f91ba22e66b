-- Operations with different identifiers commute.
use Rattle.std.proofs.Common.{◌≡◌, ℕ, true, false, cond, ◌⊎◌, inl, inr, ⊎_elim, Option, Some, None, List, [], ◌∷◌, ◌++◌, fold, arith, refl, sym, ap, ◌∙◌}
use Rattle.std.specs.Prelude.{◌+ℤ◌, pos, negsuc, int_lt}
use Rattle.std.proofs.lemmas.Int.{ints}
use Rattle.std.proofs.lemmas.Bool.{cases_Bool}
use Rattle.list_core.specs.Members.{In}
use Rattle.ids_core.specs.Kinds.{Commutes}
use Rattle.ids_core.specs.declared.ids.OpId.{OpId}
use Rattle.ids_core.specs.declared.ids.Mark.{Mark}
use Rattle.tally_core.specs.declared.place.Place.{Place}
use Rattle.tally_core.specs.declared.place.Cell.{Cell}
use Rattle.tally_core.specs.Cells.{Tallied, cell, nothing, is_nothing, turned, turn, lowers, raises}
use Rattle.tally_core.specs.Changes.{Change, step}
use Rattle.tally_core.proofs.Places.{place_cmp_total, place_cmp_same}
use Rattle.tally_core.proofs.Sparse.{changes_commute}
use Rattle.tally_core.proofs.Kept.{nothing_is}

-- two lists of steps change places where each two steps do
module _ {S X : Type 0} (f : S → X → S) where
  past : (x : X) (ys : List X) → ((y : X) → In y ys → (s : S) → f (f s x) y ≡ f (f s y) x) → (s : S) → fold f (f s x) ys ≡ f (fold f s ys) x
  past x [] h s = refl
  past x (y ∷ ys) h s = ap (λ s. fold f s ys) (h y (inl refl) s) ∙ past x ys (λ z i. h z (inr i)) (f s y)

  blocks : (xs ys : List X) → ((x y : X) → In x xs → In y ys → (s : S) → f (f s x) y ≡ f (f s y) x) → (s : S) → fold f (fold f s xs) ys ≡ fold f (fold f s ys) xs
  blocks [] ys h s = refl
  blocks (x ∷ xs) ys h s = blocks xs ys (λ a b i j. h a b (inr i) j) (f s x) ∙ ap (λ s. fold f s xs) (past x ys (λ y j. h x y (inl refl) j) s)

module _ {P : Type 0} where
  -- one less, and any turn, in both orders
  turned_past : (add : Option P) (c : Cell P) → turned add (turned None c) ≡ turned None (turned add c)
  turned_past None c = refl
  turned_past (Some p) c =
      let n = c.count in
      let down : (n +ℤ negsuc 0) +ℤ pos 1 ≡ n = omega (arith, ints) in
      let up : (n +ℤ pos 1) +ℤ negsuc 0 ≡ n = omega (arith, ints) in
      ap (λ n. cell n (Some p)) down ∙ (kept (cases_Bool (int_lt (pos 0) (n +ℤ pos 1))) ∙ ap (λ m. cell m (cond (int_lt (pos 0) (n +ℤ pos 1)) (Some p) None)) (sym up))
    where
      kept : (int_lt (pos 0) (c.count +ℤ pos 1) ≡ true) ⊎ (int_lt (pos 0) (c.count +ℤ pos 1) ≡ false) → cell c.count (Some p) ≡ cell c.count (cond (int_lt (pos 0) (c.count +ℤ pos 1)) (Some p) None)
      kept (inl e) = rw e refl
      kept (inr e) = let n = c.count in let low : int_lt (pos 0) n ≡ false = grind (arith, ints) in rw (e, low) refl

  -- not both are adds at one place
  abbrev Apart : (Place × Option P) → (Place × Option P) → Type 0
  Apart c d = c.0 ≡ d.0 → (c.1 ≡ None) ⊎ (d.1 ≡ None)

  turns_commute : (m : Tallied P) (c d : Place × Option P) → Apart c d → turn (turn m c) d ≡ turn (turn m d) c
  turns_commute m c d apart = changes_commute nothing is_nothing place_cmp_total place_cmp_same nothing_is m c.0 d.0 (turned c.1) (turned d.1) (λ same x. ⊎_elim (λ n. rw (n) (turned_past d.1 x)) (λ n. rw (n) (sym (turned_past c.1 x))) (apart same))

  -- a rise is of the operation's own identifier
  no_rise : (name : List ℕ) (over : List OpId) (c : Place × Option P) → In c (lowers name over) → c.1 ≡ None
  no_rise name [] c i = absurd i
  no_rise name (j ∷ over) c i = ⊎_elim (λ e. ap (λ c. c.1) e) (no_rise name over c) i

  own_rise : (name : List ℕ) (id : OpId) (add : Option P) (over : List OpId) (c : Place × Option P) → In c (raises name id add ++ lowers name over) → (c.1 ≡ None) ⊎ (c.0.id ≡ id)
  own_rise name id None over c i = inl (no_rise name over c i)
  own_rise name id (Some p) over c i = ⊎_elim (λ e. inr (ap (λ c. c.0.id) e)) (λ j. inl (no_rise name over c j)) i

  pub step_commutes : {O : Type 0} (does : (Mark × O) → Change P) → Commutes (step does)
  step_commutes does m a b apart = blocks turn (raises (does a).name a.0.id (does a).add ++ lowers (does a).name (does a).over) (raises (does b).name b.0.id (does b).add ++ lowers (does b).name (does b).over) (λ c d i j m. turns_commute m c d (λ same. ⊎_elim inl (λ p. ⊎_elim inr (λ q. absurd (apart (sym p ∙ (ap (λ p. p.id) same ∙ q)))) (own_rise (does b).name b.0.id (does b).add (does b).over d j)) (own_rise (does a).name a.0.id (does a).add (does a).over c i))) m
