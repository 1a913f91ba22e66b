-- Lists of stamps.
use Rattle.std.specs.Prelude.{ℕ, Bool, false, ◌||◌, List, [], ◌∷◌}
use Rattle.vv_core.specs.declared.stamp.Stamp.{Stamp}
use Rattle.vv_core.specs.Vectors.{within}

-- whether one of the stamps is within the vector
abbrev pub is_any_within : List ℕ → List Stamp → Bool
is_any_within w [] = false
is_any_within w (s ∷ stamps) = within s w || is_any_within w stamps
