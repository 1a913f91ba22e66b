-- The least of a list is at most each of it.
use Rattle.std.proofs.Common.{◌≤◌, ℕ, inl, inr, List, [], ◌∷◌, arith}
use Rattle.list_core.specs.Members.{In}
use Rattle.vv_core.specs.Vectors.{least}

pub least_below : (xs : List ℕ) (x : ℕ) → In x xs → least xs ≤ x
least_below [] x i = absurd i
least_below (y ∷ []) x (inl same) = omega (arith, same)
least_below (y ∷ []) x (inr i) = absurd i
least_below (y ∷ z ∷ zs) x (inl same) = omega (arith, same)
least_below (y ∷ z ∷ zs) x (inr i) = let le = least_below (z ∷ zs) x i in omega (arith, le)
