-- Places that each are below the next are strictly sorted.
use Rattle.std.proofs.Common.{◌≡◌, true, List, [], ◌∷◌, refl, ap}
use Rattle.std.specs.Ordering.{is_lt}
use Rattle.std.specs.declared.cmp.Ordering.TheVariants.{Less}
use Rattle.std.specs.List.{AllByRecursion}
use Rattle.std.specs.List.Sorted.{IsStrictlySortedBy}
use Rattle.std.specs.Map.{keys_of}
use Rattle.std.proofs.lemmas.Bool.{and_parts, and_from}
use Rattle.ids_core.proofs.Orders.{is_lt-true}
use Rattle.tally_core.specs.declared.place.Place.{Place}
use Rattle.tally_core.specs.declared.place.Cell.{Cell}
use Rattle.tally_core.specs.Places.{place_cmp}
use Rattle.tally_core.specs.Listing.{ascend, ascend_from}
use Rattle.tally_core.proofs.Places.{place_cmp_total}

-- what is above a place is above those below it
above_all : (low k : Place) → place_cmp low k ≡ Less → (ks : List Place) → AllByRecursion (λ y. place_cmp k y ≡ Less) ks → AllByRecursion (λ y. place_cmp low y ≡ Less) ks
above_all low k first [] h = tt
above_all low k first (y ∷ ks) h = (place_cmp_total.trans low k y first h.0, above_all low k first ks h.1)

module _ {P : Type 0} where
  from_ascent : (low : Place) (es : List (Place × Cell P)) → ascend_from low es ≡ true → AllByRecursion (λ y. place_cmp low y ≡ Less) (keys_of es) × IsStrictlySortedBy place_cmp (keys_of es)
  unfolding IsStrictlySortedBy
  from_ascent low [] h = (tt, tt)
  from_ascent low (e ∷ es) h =
      let parts = and_parts (is_lt (place_cmp low e.0)) (ascend_from e.0 es) h in
      let first = is_lt-true (place_cmp low e.0) parts.0 in
      let rest = from_ascent e.0 es parts.1 in ((first, above_all low e.0 first (keys_of es) rest.0), rest)

  to_ascent : (low : Place) (es : List (Place × Cell P)) → AllByRecursion (λ y. place_cmp low y ≡ Less) (keys_of es) → IsStrictlySortedBy place_cmp (keys_of es) → ascend_from low es ≡ true
  unfolding IsStrictlySortedBy
  to_ascent low [] above sorted = refl
  to_ascent low (e ∷ es) above sorted = and_from (is_lt (place_cmp low e.0)) _ (ap is_lt above.0) (to_ascent e.0 es sorted.0 sorted.1)

  pub sorted_ascent : (es : List (Place × Cell P)) → ascend es ≡ true → IsStrictlySortedBy place_cmp (keys_of es)
  unfolding IsStrictlySortedBy
  sorted_ascent [] h = tt
  sorted_ascent (e ∷ es) h = from_ascent e.0 es h

  pub ascent_sorted : (es : List (Place × Cell P)) → IsStrictlySortedBy place_cmp (keys_of es) → ascend es ≡ true
  unfolding IsStrictlySortedBy
  ascent_sorted [] sorted = refl
  ascent_sorted (e ∷ es) sorted = to_ascent e.0 es sorted.0 sorted.1
