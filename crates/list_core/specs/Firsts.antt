-- The first element that passes a test, and the others.
use Rattle.std.specs.Prelude.{Bool, cond, List, [], ◌∷◌, Option, Some, None}

-- the first element that passes
abbrev pub first_that : {X : Type 0} → (X → Bool) → List X → Option X
first_that p [] = None
first_that p (x ∷ xs) = cond (p x) (Some x) (first_that p xs)

-- the list without the first element that passes
abbrev pub without_first : {X : Type 0} → (X → Bool) → List X → List X
without_first p [] = []
without_first p (x ∷ xs) = cond (p x) xs (x ∷ without_first p xs)

-- x in front of the list, where there is one
abbrev pub in_front : {X : Type 0} → Option X → List X → List X
in_front None xs = xs
in_front (Some x) xs = x ∷ xs

-- the first element that passes in front, and the others behind it in their order
abbrev pub brought_forward : {X : Type 0} → (X → Bool) → List X → List X
brought_forward p xs = in_front (first_that p xs) (without_first p xs)
