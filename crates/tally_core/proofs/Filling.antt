-- Trees that are filled from entries with different places, one after the other.
use Rattle.std.proofs.Common.{◌≡◌, Bool, true, false, cond, List, ◌∷◌, Some, None, refl, sym, ap, ◌∙◌, subst}
use Rattle.std.specs.Cmp.{eq_by_cmp_equiv}
use Rattle.std.specs.List.Sorted.{IsStrictlySortedBy}
use Rattle.std.specs.Map.{keys_of}
use Rattle.std.specs.BTreeMap.{is_at}
use Rattle.std.proofs.lemmas.Map.Entries.{option_filter}
use Rattle.std.proofs.lemmas.Map.Keys.{sorted_head, sorted_tail}
use Rattle.std.specs.Prelude.{Option}
use Rattle.tally_core.specs.declared.place.Place.{Place}
use Rattle.tally_core.specs.declared.place.Cell.{Cell}
use Rattle.tally_core.specs.Places.{place_cmp}
use Rattle.tally_core.specs.Changes.{or_else}
use Rattle.tally_core.proofs.Places.{place_cmp_total, place_cmp_same}
use Rattle.tally_core.proofs.Sparse.{is_same, none_above}
use Rattle.tally_core.proofs.Kept.{find, Updated}

-- beside nothing that was put in, the entries say it all
pub or_none : {X : Type 0} (x : Option X) → or_else x None ≡ x
or_none None = refl
or_none (Some x) = refl

-- the places of what is left are sorted
pub sorted_left : {P : Type 0} (left rest : List (Place × Cell P)) (e : Place × Cell P) → left ≡ e ∷ rest → IsStrictlySortedBy place_cmp (keys_of left) → IsStrictlySortedBy place_cmp (keys_of rest)
sorted_left left rest e is sorted = sorted_tail place_cmp e.0 (keys_of rest) (subst (λ l. IsStrictlySortedBy place_cmp (keys_of l)) is sorted)

module _ {P : Type 0} (t : Cell P → Bool) where
  -- what passes of the entries that are left, or else what was put in
  abbrev pub left_or : List (Place × Cell P) → List (Place × Cell P) → Place → Option (Cell P)
  left_or rest put q = or_else (option_filter t (find rest q)) (find put q)

  module _ (left rest old : List (Place × Cell P)) (e : Place × Cell P) (is : left ≡ e ∷ rest) (sorted : IsStrictlySortedBy place_cmp (keys_of left)) (q : Place) where
    -- behind an entry its place does not stand again
    alone : is_at (place_cmp q) e.0 ≡ true → find rest q ≡ None
    alone here = ap (find rest) (is_same place_cmp_same q e.0 here) ∙ none_above place_cmp e.0 rest (sorted_head place_cmp e.0 (keys_of rest) (subst (λ l. IsStrictlySortedBy place_cmp (keys_of l)) is sorted))

    -- one that passes is put in
    pub put_more : (new : List (Place × Cell P)) → t e.1 ≡ true → Updated old new e.0 (Some e.1) → left_or rest new q ≡ left_or left old q
    put_more new passes put = go (is_at (place_cmp q) e.0) refl ∙ ap (λ l. left_or l old q) (sym is)
      where
        turned : find new q ≡ cond (is_at (place_cmp q) e.0) (Some e.1) (find old q)
        turned = put q ∙ ap (λ b. cond b (Some e.1) (find old q)) ((eq_by_cmp_equiv place_cmp_total).symm e.0 q)

        go : (b : Bool) → is_at (place_cmp q) e.0 ≡ b → left_or rest new q ≡ left_or (e ∷ rest) old q
        go true h = rw (alone h, turned, h, passes) refl
        go false h = rw (turned, h) refl

    -- another is passed over
    pub pass_more : t e.1 ≡ false → left_or rest old q ≡ left_or left old q
    pass_more fails = go (is_at (place_cmp q) e.0) refl ∙ ap (λ l. left_or l old q) (sym is)
      where
        go : (b : Bool) → is_at (place_cmp q) e.0 ≡ b → left_or rest old q ≡ left_or (e ∷ rest) old q
        go true h = rw (alone h, h, fails) refl
        go false h = rw h refl
