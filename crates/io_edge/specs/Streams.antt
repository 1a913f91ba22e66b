-- What a source has left, what a sink took, and when a count of faults has risen.
use Rattle.std.specs.Prelude.{◌≡◌, ◌<◌, ◌≤◌, ◌⊎◌, ◌^◌, ◌-◌, ℕ, List, ◌++◌, Option, length, take}
use Rattle.std.specs.Option.{option_map}

-- A count of faults rose, or stands at the last number of 64 bits.
abbrev pub HasRisen : ℕ → ℕ → Type 0
HasRisen before now = (before < now) ⊎ (2 ^ 64 - 1 ≤ now)

-- the bytes that were left, from a piece and what is left behind it
abbrev pub puts_back : List ℕ → Option (List ℕ) → Option (List ℕ)
puts_back piece left = option_map (λ rest. piece ++ rest) left

-- the bytes that are taken, from a piece and what was taken before it
abbrev pub puts_behind : List ℕ → Option (List ℕ) → Option (List ℕ)
puts_behind piece taken = option_map (λ old. old ++ piece) taken

-- a front of the text was taken, and no more
pub record TookFront (text : List ℕ) (old new : Option (List ℕ)) : Type 0 where
  pub count : ℕ
  pub most : count ≤ length text
  pub front : new ≡ puts_behind (take count text) old

-- some bytes are no longer left, and those behind them are
pub record LeftBehind (old new : Option (List ℕ)) : Type 0 where
  pub gone : List ℕ
  pub parts : old ≡ puts_back gone new
