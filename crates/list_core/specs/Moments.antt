-- What holds of each element of a list, after those before it.
use Rattle.std.specs.Prelude.{◌≡◌, ℕ, List, take, slice_get, Some}

-- at each place p, the fact P holds of what stands before p and of the element at p
pub record Each {X : Type 0} (P : List X → X → Type 0) (xs : List X) : Type 0 where
  pub holds : (p : ℕ) (x : X) → slice_get xs p ≡ Some x → P (take p xs) x
