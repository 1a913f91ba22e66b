-- What both parts of the cells say, and that cells stay in their parts.
use Rattle.std.proofs.Common.{◌≡◌, ◌⊎◌, inl, inr, Bool, true, false, cond, Option, Some, None, List, [], ◌∷◌, ◌++◌, refl, sym, ap, subst, ◌∙◌}
use Rattle.std.proofs.lemmas.Bool.{cases_Bool}
use Rattle.std.specs.Option.{unwrap_or}
use Rattle.std.specs.BTreeMap.{is_at}
use Rattle.tally_core.specs.declared.place.Place.{Place}
use Rattle.tally_core.specs.declared.place.Cell.{Cell}
use Rattle.tally_core.specs.Places.{place_cmp}
use Rattle.tally_core.specs.Sparse.{change}
use Rattle.tally_core.specs.Cells.{nothing, is_nothing, cell_at, seen, turn, turned}
use Rattle.tally_core.specs.Changes.{or_else}
use Rattle.tally_core.specs.Parted.{is_apart, AreApart}
use Rattle.tally_core.specs.Room.{can_fall}
use Rattle.tally_core.proofs.Places.{place_cmp_total, place_cmp_same}
use Rattle.tally_core.proofs.Sparse.{is_same, at-sparse, sparse_updated, sparse_kept, shown}
use Rattle.tally_core.proofs.Kept.{nothing_is, find, Updated}

module _ {P : Type 0} where
  -- what is told of a cell that is found
  abbrev pub told : Option (Cell P) → Option (Cell P)
  told = shown is_nothing

  -- of two lists, what stands in the first, or else in the second
  pub find_both : (L O : List (Place × Cell P)) (q : Place) → find (L ++ O) q ≡ or_else (find L q) (find O q)
  find_both [] O q = refl
  find_both (e ∷ L) O q = at (is_at (place_cmp q) e.0) (find_both L O q)
    where
      at : (b : Bool) → find (L ++ O) q ≡ or_else (find L q) (find O q) → cond b (Some e.1) (find (L ++ O) q) ≡ or_else (cond b (Some e.1) (find L q)) (find O q)
      at true ih = refl
      at false ih = ih

  -- where each list is updated, both are
  both_updated : (L L' O O' : List (Place × Cell P)) (p : Place) (l o : Option (Cell P)) → Updated L L' p l → Updated O O' p o → Updated (L ++ O) (L' ++ O') p (or_else l o)
  both_updated L L' O O' p l o u v q = find_both L' O' q ∙ (ap (λ x. or_else x (find O' q)) (u q) ∙ (ap (or_else (cond (is_at (place_cmp p) q) l (find L q))) (v q) ∙ (out (is_at (place_cmp p) q) ∙ ap (cond (is_at (place_cmp p) q) (or_else l o)) (sym (find_both L O q)))))
    where
      out : (b : Bool) → or_else (cond b l (find L q)) (cond b o (find O q)) ≡ cond b (or_else l o) (or_else (find L q) (find O q))
      out true = refl
      out false = refl

  -- a list that keeps what it has is updated to it
  pub stays : (es : List (Place × Cell P)) (p : Place) → Updated es es p (find es p)
  stays es p q = at (cases_Bool (is_at (place_cmp p) q))
    where
      at : (is_at (place_cmp p) q ≡ true) ⊎ (is_at (place_cmp p) q ≡ false) → find es q ≡ cond (is_at (place_cmp p) q) (find es p) (find es q)
      at (inl e) = rw e (ap (find es) (sym (is_same place_cmp_same p q e)))
      at (inr e) = rw e refl

  -- a list that has none at the place, and keeps what it has
  pub stays_none : (es fs : List (Place × Cell P)) (p : Place) (w : Option (Cell P)) → fs ≡ es → find es p ≡ None → w ≡ None → Updated es fs p w
  stays_none es fs p w same none is q = ap (λ es. find es q) same ∙ (stays es p q ∙ ap (λ w. cond (is_at (place_cmp p) q) w (find es q)) (none ∙ sym is))

  -- the parts once one place is turned
  pub seen_turned : (L L' O O' : List (Place × Cell P)) (p : Place) (add : Option P) (l o : Option (Cell P)) → Updated L L' p l → Updated O O' p o → told (or_else l o) ≡ told (Some (turned add (unwrap_or (or_else (find L p) (find O p)) nothing))) → seen (L' ++ O') ≡ turn (seen (L ++ O)) (p, add)
  unfolding change
  seen_turned L L' O O' p add l o u v is =
      let x = turned add (cell_at (seen (L ++ O)) p) in
      let here : unwrap_or (or_else (find L p) (find O p)) nothing ≡ cell_at (seen (L ++ O)) p = sym (at-sparse nothing is_nothing place_cmp_total place_cmp_same nothing_is (L ++ O) p ∙ ap (λ o. unwrap_or o nothing) (find_both L O p)) in
      sparse_updated nothing is_nothing place_cmp_total place_cmp_same (L ++ O) (L' ++ O') p x (or_else l o) (is ∙ ap (λ c. told (Some (turned add c))) here) (both_updated L L' O O' p l o u v)

  -- the parts where nothing else is told of a place
  pub seen_kept : (L L' O O' : List (Place × Cell P)) (p : Place) (l o : Option (Cell P)) → Updated L L' p l → Updated O O' p o → told (or_else l o) ≡ told (or_else (find L p) (find O p)) → seen (L' ++ O') ≡ seen (L ++ O)
  seen_kept L L' O O' p l o u v is = sparse_kept nothing is_nothing place_cmp_total place_cmp_same (L ++ O) (L' ++ O') p (or_else l o) (is ∙ ap told (sym (find_both L O p))) (both_updated L L' O O' p l o u v)

  -- cells stay in their parts where those of one place do
  pub apart_kept : (L L' O O' : List (Place × Cell P)) (p : Place) (l o : Option (Cell P)) → Updated L L' p l → Updated O O' p o → is_apart l o ≡ true → AreApart L O → AreApart L' O'
  apart_kept L L' O O' p l o u v here apart q = ap (λ x. is_apart x (find O' q)) (u q) ∙ (ap (is_apart (cond (is_at (place_cmp p) q) l (find L q))) (v q) ∙ out (is_at (place_cmp p) q))
    where
      out : (b : Bool) → is_apart (cond b l (find L q)) (cond b o (find O q)) ≡ true
      out true = here
      out false = apart q

  -- and so does what can fall
  pub can_kept : (L L' O O' : List (Place × Cell P)) (p : Place) (l o : Option (Cell P)) → Updated L L' p l → Updated O O' p o → (can_fall (find L p) (find O p) ≡ true → can_fall l o ≡ true) → (q : Place) → can_fall (find L q) (find O q) ≡ true → can_fall (find L' q) (find O' q) ≡ true
  can_kept L L' O O' p l o u v here q can = ap (λ x. can_fall x (find O' q)) (u q) ∙ (ap (can_fall (cond (is_at (place_cmp p) q) l (find L q))) (v q) ∙ out (cases_Bool (is_at (place_cmp p) q)))
    where
      out : (is_at (place_cmp p) q ≡ true) ⊎ (is_at (place_cmp p) q ≡ false) → can_fall (cond (is_at (place_cmp p) q) l (find L q)) (cond (is_at (place_cmp p) q) o (find O q)) ≡ true
      out (inl e) = rw e (here (subst (λ q. can_fall (find L q) (find O q) ≡ true) (sym (is_same place_cmp_same p q e)) can))
      out (inr e) = rw e can
