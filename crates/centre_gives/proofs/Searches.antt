-- What a binary search finds among parts that ascend by their numbers.
use Rattle.std.proofs.Common.{◌≡◌, ◌<◌, ◌≤◌, ℕ, List, length, map, get_or, Some, None, Result, Ok, Err, ⊎_elim, sym, ap, subst, arith, eq-eqb}
use Rattle.std.specs.Prelude.{◌==◌}
use Rattle.std.specs.Cmp.{nat_cmp_total}
use Rattle.std.specs.List.Sorted.{IsStrictlySortedBy, IsNonDecreasingBy, IsSearchInRange, IsBinarySearchResult}
use Rattle.std.specs.Map.{lookup}
use Rattle.std.specs.Ordering.{nat_cmp, ordering_index}
use Rattle.std.specs.Result.{MatchResult}
use Rattle.std.proofs.lemmas.Bool.{cases_lt, eqb-true}
use Rattle.std.proofs.lemmas.Bool.Decides.{nat_tests}
use Rattle.std.proofs.lemmas.Cmp.{ranked}
use Rattle.std.proofs.lemmas.List.{get_or-map, length-map}
use Rattle.std.proofs.lemmas.Map.Keys.{below_from_sorted}
use Rattle.std.proofs.lemmas.Option.{slice_get_within, slice_get-get_or, get_or_from_slice_get}
use Rattle.list_core.specs.Members.{In}
use Rattle.list_core.proofs.Gets.{get_In, In_get}
use Rattle.centre_gives.proofs.Lookups.{apart_sorted, found, not_found}

module _ {X : Type 0} (key : X → ℕ) (value : X → ℕ) (xs : List X) (sorted : IsStrictlySortedBy nat_cmp (map key xs)) where
  -- the numbers do not fall
  rising : (i j : ℕ) (d : X) → i ≤ j → j < length xs → key (get_or xs i d) ≤ key (get_or xs j d)
  rising i j d le lt = ⊎_elim
      (λ below.
      let first = get_or-map key xs i d 0 (omega (arith, le, lt)) in
      let second = get_or-map key xs j d 0 lt in
      let less = below_from_sorted (map key xs) i j 0 sorted below (let long = length-map xs key in omega (arith, lt, long)) in
      omega (arith, first, second, less))
      (λ above. let same : key (get_or xs i d) ≡ key (get_or xs j d) = ap (λ p. key (get_or xs p d)) (let one : i ≡ j = omega (arith, le, above) in one) in omega (arith, same))
      (cases_lt i j)

  -- neither do their places beside another number
  comparisons_rise : (k : ℕ) → IsNonDecreasingBy (λ x. ordering_index (nat_cmp (key x) k)) xs
  comparisons_rise k i j d le lt = let up = rising i j d le lt in grind (arith, nat_tests)

  -- a search finds the value of the part with the number, or that no part has it
  pub searched_in : (k : ℕ) (r : Result ℕ ℕ) → IsSearchInRange r (length xs) → IsBinarySearchResult (λ x. nat_cmp (key x) k) xs r → MatchResult r (λ i. (d : X) → lookup (λ c. k == c) (map (λ x. (key x, value x)) xs) ≡ Some (value (get_or xs i d))) (λ i. lookup (λ c. k == c) (map (λ x. (key x, value x)) xs) ≡ None)
  searched_in k (Ok i) within equal = λ d.
      let is : key (get_or xs i d) ≡ k = ranked _ k _ (sym (equal d)) in
      subst (λ k. lookup (λ c. k == c) (map (λ x. (key x, value x)) xs) ≡ Some (value (get_or xs i d))) is
      (found key value (λ a b. a == b) eqb-true eq-eqb xs (get_or xs i d) (apart_sorted nat_cmp_total key xs sorted) (get_In xs i (get_or xs i d) (slice_get-get_or xs i d within)))
  searched_in k (Err i) within parted = not_found key value (λ a b. a == b) eqb-true eq-eqb xs k other
    where
      other : (x : X) → In x xs → key x ≡ k → ⊥
      other x there same =
          let place = In_get xs x there in
          let low = slice_get_within xs place.0 x place.1 in
          let read : key (get_or xs place.0 x) ≡ key x = ap key (get_or_from_slice_get xs place.0 x x place.1) in
          ⊎_elim
          (λ below. let less : key (get_or xs place.0 x) < k = ranked _ k _ (sym ((parted (comparisons_rise k)).0 place.0 x (omega arith) below)) in absurd (omega (arith, less, read, same)))
          (λ above. let more : k < key (get_or xs place.0 x) = ranked _ k _ (sym ((parted (comparisons_rise k)).1 place.0 x above low)) in absurd (omega (arith, more, read, same)))
          (cases_lt place.0 i)
