-- Where the first element that passes, and the others, come from.
use Rattle.std.proofs.Common.{◌≡◌, Bool, true, false, cond, inl, inr, List, [], ◌∷◌, Option, Some, None, refl, sym, ap, ◌∙◌, subst}
use Rattle.std.proofs.lemmas.Option.{none-some, same_Some}
use Rattle.list_core.specs.Members.{In}
use Rattle.list_core.specs.Firsts.{first_that, without_first, in_front, brought_forward}

-- the first that passes is a member, and passes
pub first_that_some : {X : Type 0} (p : X → Bool) (xs : List X) (x : X) → first_that p xs ≡ Some x → In x xs × (p x ≡ true)
first_that_some p [] x is = absurd (none-some x is)
first_that_some {X} p (y ∷ xs) x is = go (λ rest. first_that_some p xs x rest) (p y) refl is
  where
    go : (first_that p xs ≡ Some x → In x xs × (p x ≡ true)) → (b : Bool) → p y ≡ b → cond b (Some y) (first_that p xs) ≡ Some x → In x (y ∷ xs) × (p x ≡ true)
    go rest true passes is = (inl (sym (same_Some y x is)), ap p (sym (same_Some y x is)) ∙ passes)
    go rest false passes is = let r = rest is in (inr r.0, r.1)

-- what is left without it was there
pub In_without_first : {X : Type 0} (p : X → Bool) (xs : List X) (x : X) → In x (without_first p xs) → In x xs
In_without_first p [] x i = i
In_without_first {X} p (y ∷ xs) x i = go (λ j. In_without_first p xs x j) (p y) i
  where
    go : (In x (without_first p xs) → In x xs) → (b : Bool) → In x (cond b xs (y ∷ without_first p xs)) → In x (y ∷ xs)
    go rest true i = inr i
    go rest false (inl same) = inl same
    go rest false (inr i) = inr (rest i)

-- what is brought forward was there
pub In_brought_forward : {X : Type 0} (p : X → Bool) (xs : List X) (x : X) → In x (brought_forward p xs) → In x xs
In_brought_forward {X} p xs x i = go (first_that p xs) refl i
  where
    go : (o : Option X) → first_that p xs ≡ o → In x (in_front o (without_first p xs)) → In x xs
    go None is i = In_without_first p xs x i
    go (Some y) is (inl same) = subst (λ x. In x xs) (sym same) (first_that_some p xs y is).0
    go (Some y) is (inr i) = In_without_first p xs x i
