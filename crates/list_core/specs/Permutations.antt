-- One list in another order.
use Rattle.std.specs.Prelude.{List, [], ◌∷◌}

-- the second list has the elements of the first, each as often, in any order
pub data Perm {X : Type 0} : List X → List X → Type 0 where
  Done : Perm [] []
  Skip : (x : X) (xs ys : List X) → Perm xs ys → Perm (x ∷ xs) (x ∷ ys)
  Swap : (x y : X) (xs : List X) → Perm (x ∷ (y ∷ xs)) (y ∷ (x ∷ xs))
  Then : (xs ys zs : List X) → Perm xs ys → Perm ys zs → Perm xs zs
