-- What is the same is equal, and the other way round.
use Rattle.std.specs.Prelude.{◌≡◌, Bool, true, ◌==◌, refl}
use Rattle.std.specs.Str.{bytes_eq}
use Rattle.std.specs.Cmp.{IsEquivalence, decided}
use Rattle.std.specs.Cmp.Lexicographic.{pointwise_decides}
use Rattle.std.proofs.Common.{ap, subst}
use Rattle.std.proofs.lemmas.Bool.{and_parts, and_from}
use Rattle.std.proofs.lemmas.Bool.Decides.{Decides-eqb}
use Rattle.ids_core.specs.declared.ids.Dot.{Dot}
use Rattle.ids_core.specs.declared.object.Sort.{Sort}
use Rattle.ids_core.specs.declared.object.Sort.TheVariants.{Counter, Register, Set, Map}
use Rattle.ids_core.specs.declared.object.ObjectId.{ObjectId}
use Rattle.ids_core.specs.Ids.{same_dot, same_sort, same_object}

-- a test that tells what is equal is an equivalence
pub equivalence_of : {K : Type 0} (same : K → K → Bool) → ((x y : K) → same x y ≡ true → x ≡ y) → ((x : K) → same x x ≡ true) → IsEquivalence same
equivalence_of same tells itself = decided same (λ x y. (tells x y, λ is. subst (λ z. same x z ≡ true) is (itself x)))

-- what the test finds the same dot, is one
pub same_dot-true : (a b : Dot) → same_dot a b ≡ true → a ≡ b
same_dot-true a b h =
    let parts = and_parts (a.client == b.client) (a.number == b.number) h in
    let client = (Decides-eqb a.client b.client).0 parts.0 in
    let number = (Decides-eqb a.number b.number).0 parts.1 in
    λ i. record { client = client i; number = number i }

-- and one dot is found the same
pub same_dot-same : (a b : Dot) → a ≡ b → same_dot a b ≡ true
same_dot-same a b h = and_from (a.client == b.client) (a.number == b.number) ((Decides-eqb a.client b.client).1 (ap (λ d. d.client) h)) ((Decides-eqb a.number b.number).1 (ap (λ d. d.number) h))

-- what the test finds the same kind, is one
pub same_sort-true : (a b : Sort) → same_sort a b ≡ true → a ≡ b
same_sort-true Counter Counter h = refl
same_sort-true Register Register h = refl
same_sort-true Set Set h = refl
same_sort-true Map Map h = refl
same_sort-true _ _ h = cc

-- a kind is found the same as itself
pub same_sort-itself : (a : Sort) → same_sort a a ≡ true
same_sort-itself Counter = refl
same_sort-itself Register = refl
same_sort-itself Set = refl
same_sort-itself Map = refl

-- what the test finds the same object, is one
pub same_object-true : (a b : ObjectId) → same_object a b ≡ true → a ≡ b
same_object-true a b h =
    let parts = and_parts (same_sort a.sort b.sort) (bytes_eq a.name b.name) h in
    let sort = same_sort-true a.sort b.sort parts.0 in
    let name = (pointwise_decides Decides-eqb a.name b.name).0 parts.1 in
    λ i. record { sort = sort i; name = name i }

-- an object is found the same as itself
pub same_object-itself : (a : ObjectId) → same_object a a ≡ true
same_object-itself a = and_from (same_sort a.sort a.sort) (bytes_eq a.name a.name) (same_sort-itself a.sort) ((pointwise_decides Decides-eqb a.name a.name).1 refl)

-- and one object is found the same
pub same_object-same : (a b : ObjectId) → a ≡ b → same_object a b ≡ true
same_object-same a b h = subst (λ o. same_object a o ≡ true) h (same_object-itself a)

-- to be the same object is an equivalence
pub same_object_equivalence : IsEquivalence same_object
same_object_equivalence = equivalence_of same_object same_object-true same_object-itself
