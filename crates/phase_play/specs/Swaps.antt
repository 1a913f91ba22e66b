-- Lists whose elements change places, two at a time.
use Rattle.std.specs.Prelude.{◌≡◌, ◌<◌, ℕ, length, List, [], ◌∷◌, ◌++◌, All}
use Rattle.std.specs.List.{swap, fold}
use Rattle.phase_play.specs.declared.gathering.Swap.{Swap}

-- the elements at two places in each other's place
abbrev pub swapped : {X : Type 0} → List X → Swap → List X
swapped xs s = swap xs s.here s.there

-- one swap after another
abbrev pub swapped_by : {X : Type 0} → List X → List Swap → List X
swapped_by xs swaps = fold swapped xs swaps

-- the same swaps undone, the last one first
abbrev pub swapped_back : {X : Type 0} → List X → List Swap → List X
swapped_back xs [] = xs
swapped_back xs (s ∷ swaps) = swapped (swapped_back xs swaps) s

-- both places are among so many
abbrev pub IsWithin : ℕ → Swap → Type 0
IsWithin n s = (s.here < n) × (s.there < n)

-- elements changed places, which was noted
pub record Swaps {X : Type 0} (old new : List X) (before after : List Swap) : Type 0 where
  pub more : List Swap
  pub noted : after ≡ before ++ more
  pub made : new ≡ swapped_by old more
  pub within : All (IsWithin (length old)) more
  pub long : length new ≡ length old
