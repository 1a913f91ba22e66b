-- Which tallies can be changed, kept from step to step.
use Rattle.std.proofs.Common.{◌≡◌, ◌⊎◌, inl, inr, ⊎_elim, ◌<◌, ◌+◌, ℕ, true, false, List, [], ◌∷◌, length, drop, get_or, None, fold, refl, sym, ap, ◌∙◌, subst}
use Rattle.std.proofs.lemmas.List.{drop_more}
use Rattle.std.proofs.lemmas.Bool.{and_parts}
use Rattle.std.specs.Ordering.{eq_by_cmp, is_lt}
use Rattle.std.specs.declared.cmp.Ordering.TheVariants.{Less}
use Rattle.std.specs.Cmp.{tied_itself}
use Rattle.list_core.specs.Members.{In}
use Rattle.ids_core.specs.declared.ids.OpId.{OpId}
use Rattle.ids_core.specs.Orders.{id_cmp, id_cmp_total, name_cmp_total}
use Rattle.ids_core.specs.Ascending.{IsAscending, ascends_from}
use Rattle.ids_core.proofs.Orders.{is_lt-true}
use Rattle.tally_core.specs.declared.place.Place.{Place}
use Rattle.tally_core.specs.declared.parted.Parted.{Parted}
use Rattle.tally_core.specs.Places.{place, place_cmp, least_id}
use Rattle.tally_core.specs.Cells.{Tallied, turn, lowers}
use Rattle.tally_core.specs.Room.{CanFall, CanLower}

-- what follows an element of an ascending list is above it, and ascends
above_first : (low : OpId) (ids : List OpId) → ascends_from low ids ≡ true → (id : OpId) → In id ids → id_cmp low id ≡ Less
above_first low [] h id i = absurd i
above_first low (x ∷ ids) h id i =
    let parts = and_parts (is_lt (id_cmp low x)) (ascends_from x ids) h in
    let first = is_lt-true (id_cmp low x) parts.0 in
    ⊎_elim (λ e. ap (id_cmp low) e ∙ first) (λ j. id_cmp_total.trans low x id first (above_first x ids parts.1 id j)) i

pub ascending_rest : (x : OpId) (ids : List OpId) → IsAscending (x ∷ ids) → IsAscending ids
ascending_rest x [] h = refl
ascending_rest x (y ∷ ids) h = (and_parts (is_lt (id_cmp x y)) (ascends_from y ids) h).1

-- places of one name and different identifiers
other_place : (name : List ℕ) (a b : OpId) → id_cmp a b ≡ Less → eq_by_cmp place_cmp (place name a) (place name b) ≡ false
other_place name a b less = rw (tied_itself name_cmp_total name, less) refl

module _ {P : Type 0} where
  -- one identifier more can be lowered
  pub stood_more : (m n : Parted P) (name : List ℕ) (over : List OpId) (i : ℕ) (d : OpId) → i < length over → ((p : Place) → CanFall m p → CanFall n p) → CanFall n (place name (get_or over i d)) → ((id : OpId) → In id over → In id (drop i over) ⊎ CanFall m (place name id)) → (id : OpId) → In id over → In id (drop (i + 1) over) ⊎ CanFall n (place name id)
  stood_more m n name over i d lt stays here before id j = ⊎_elim (λ rest. at (subst (In id) (drop_more over i d lt) rest)) (λ h. inr (stays (place name id) h)) (before id j)
    where
      at : (id ≡ get_or over i d) ⊎ In id (drop (i + 1) over) → In id (drop (i + 1) over) ⊎ CanFall n (place name id)
      at (inl e) = inr (subst (λ x. CanFall n (place name x)) (sym e) here)
      at (inr k) = inl k

  pub lower_first : (m : Parted P) (name : List ℕ) (over : List OpId) (i : ℕ) (d : OpId) → i < length over → CanLower m name (drop i over) → CanFall m (place name (get_or over i d))
  lower_first m name over i d lt can = can (get_or over i d) (subst (In (get_or over i d)) (sym (drop_more over i d lt)) (inl refl))

  -- the others can still be lowered
  pub lower_rest : (m n : Parted P) (name : List ℕ) (x : OpId) (ids : List OpId) → IsAscending (x ∷ ids) → ((p : Place) → eq_by_cmp place_cmp (place name x) p ≡ false → CanFall m p → CanFall n p) → CanLower m name (x ∷ ids) → CanLower n name ids
  lower_rest m n name x ids up stays can id i = stays (place name id) (other_place name x id (above_first x ids up id i)) (can id (inr i))

  -- one tally more is lowered
  pub lowered_more : (m n s : Tallied P) (name : List ℕ) (over : List OpId) (i : ℕ) → i < length over → n ≡ turn m (place name (get_or over i least_id), None) → fold turn m (lowers name (drop i over)) ≡ s → fold turn n (lowers name (drop (i + 1) over)) ≡ s
  lowered_more m n s name over i lt is h = ap (λ n. fold turn n (lowers name (drop (i + 1) over))) is ∙ (sym (ap (λ ids. fold turn m (lowers name ids)) (drop_more over i least_id lt)) ∙ h)
