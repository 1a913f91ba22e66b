-- Dots in order, each once: after a sort, and with equal neighbours left out.
use Rattle.std.proofs.Common.{◌≡◌, true, List, [], refl, sym, subst, IsPermutation}
use Rattle.std.specs.Ordering.{eq_by_cmp}
use Rattle.std.specs.Cmp.{both_ways}
use Rattle.std.specs.List.{Contains}
use Rattle.std.specs.List.Sorted.{IsSorted, IsStrictlySortedBy}
use Rattle.std.specs.List.Retain.{IsFiltered, DiffersFromLast}
use Rattle.std.proofs.lemmas.Cmp.{eq_by_cmp_equiv}
use Rattle.std.proofs.lemmas.Bool.{false≢true}
use Rattle.std.proofs.lemmas.List.Filters.{dedup_is}
use Rattle.std.proofs.lemmas.List.Kept.{Contains-dedup, Contains-from_dedup, IsStrictlySortedBy-dedup}
use Rattle.std.proofs.lemmas.List.Sorted.{Contains-permutation, IsPermutation-sym}
use Rattle.list_core.specs.Members.{In}
use Rattle.list_core.proofs.Gets.{In_contains, contains_In}
use Rattle.ids_core.specs.declared.ids.Dot.{Dot}
use Rattle.ids_core.specs.Ids.{same_dot}
use Rattle.ids_core.specs.Orders.{dot_cmp, dot_cmp_total, dot_cmp_same}
use Rattle.tally_core.proofs.Sparse.{equal_of}
use Rattle.ids_core.specs.Same.{same_dot-true, same_dot-same, equivalence_of}

-- dots are the same where their order says so
same_dot-cmp : (d e : Dot) → same_dot d e ≡ eq_by_cmp dot_cmp d e
same_dot-cmp d e = both_ways (same_dot d e) (eq_by_cmp dot_cmp d e)
    (λ same. subst (λ e. eq_by_cmp dot_cmp d e ≡ true) (same_dot-true d e same) ((eq_by_cmp_equiv dot_cmp_total).refl d))
    (λ same. same_dot-same d e (dot_cmp_same d e (equal_of (dot_cmp d e) same)))

-- in strict order
pub once_ascending : (sorted once : List Dot) → IsSorted dot_cmp sorted → IsFiltered (DiffersFromLast same_dot) [] sorted once → IsStrictlySortedBy dot_cmp once
once_ascending sorted once rises kept = subst (IsStrictlySortedBy dot_cmp) (sym (dedup_is same_dot sorted once kept)) (IsStrictlySortedBy-dedup dot_cmp_total same_dot-cmp sorted rises)

-- with the members of the list
pub once_members : (dots sorted once : List Dot) (d : Dot) → IsPermutation dots sorted → IsFiltered (DiffersFromLast same_dot) [] sorted once → (In d once → In d dots) × (In d dots → In d once)
once_members dots sorted once d moved kept =
    let is = dedup_is same_dot sorted once kept in (
      λ i. contains_In dots d (Contains-permutation sorted dots d (IsPermutation-sym dots sorted moved) (Contains-from_dedup same_dot sorted d (subst (λ l. Contains l d) is (In_contains once d i)))),
      λ i. contains_In once d (subst (λ l. Contains l d) (sym is) (Contains-dedup (equivalence_of same_dot same_dot-true (λ d. same_dot-same d d refl)) same_dot-true sorted d (Contains-permutation dots sorted d moved (In_contains dots d i)))),
    )
