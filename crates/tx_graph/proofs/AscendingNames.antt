-- Names in ascending order, each once.
use Rattle.std.proofs.Common.{◌≡◌, ℕ, true, ◌↔◌, List, Some, ap, ◌∙◌}
use Rattle.std.specs.Str.{bytes_eq}
use Rattle.std.specs.List.{Contains, dedup}
use Rattle.std.specs.List.Sorted.{IsPermutation, IsSorted, IsStrictlySortedBy}
use Rattle.std.specs.Cmp.Lexicographic.{texts_ties, bytes_decides}
use Rattle.std.proofs.lemmas.Option.{slice_get_within, slice_get-get_or, get_or_from_slice_get}
use Rattle.std.proofs.lemmas.List.Kept.{Contains-dedup, Contains-from_dedup, IsStrictlySortedBy-dedup}
use Rattle.std.proofs.lemmas.List.Sorted.{Contains-permutation, IsPermutation-sym}
use Rattle.list_core.specs.Members.{In}
use Rattle.list_core.proofs.Gets.{In_get, get_In}
use Rattle.ids_core.specs.Same.{equivalence_of}
use Rattle.ids_core.specs.Orders.{name_cmp, name_cmp_total}

-- a member stands at a place
Contains-In : {X : Type 0} (xs : List X) (x : X) → In x xs → Contains xs x
Contains-In xs x i = let r = In_get xs x i in (r.0, slice_get_within xs r.0 x r.1, get_or_from_slice_get xs r.0 x x r.1)

-- what stands at a place is a member
In-Contains : {X : Type 0} (xs : List X) (x : X) → Contains xs x → In x xs
In-Contains xs x at = get_In xs at.0 x (slice_get-get_or xs at.0 x at.1 ∙ ap Some at.2)

-- sorted names, each once, strictly ascend
pub names_ascend : (names : List (List ℕ)) → IsSorted name_cmp names → IsStrictlySortedBy name_cmp (dedup bytes_eq names)
names_ascend names sorted = IsStrictlySortedBy-dedup name_cmp_total texts_ties names sorted

-- names in another order, each once, are the same names
pub names_kept : (names sorted : List (List ℕ)) (name : List ℕ) → IsPermutation names sorted → In name (dedup bytes_eq sorted) ↔ In name names
names_kept names sorted name moved = (
  λ i. In-Contains names name (Contains-permutation sorted names name (IsPermutation-sym names sorted moved) (Contains-from_dedup bytes_eq sorted name (Contains-In (dedup bytes_eq sorted) name i))),
  λ i. In-Contains (dedup bytes_eq sorted) name (Contains-dedup (equivalence_of bytes_eq same itself) same sorted name (Contains-permutation names sorted name moved (Contains-In names name i))),
)
  where
    same : (x y : List ℕ) → bytes_eq x y ≡ true → x ≡ y
    same x y is = (bytes_decides x y).0 is

    itself : (x : List ℕ) → bytes_eq x x ≡ true
    itself x = (bytes_decides x x).1 (λ i. x)
