-- What contracts see of the two ends of a link.
use Rattle.std.specs.Prelude.{ℕ, ◌+◌, ◌-◌, ◌^◌, List, min}
use Rattle.atomic_blocks.specs.Laid.{WebId}

-- the end that puts: its link, and what was put
pub record GiverView (T : Type 0) : Type 0 where
  pub link : WebId
  pub put : List T

-- the end that takes: its link, what was taken, and how often nothing was found
pub record TakerView (T : Type 0) : Type 0 where
  pub link : WebId
  pub taken : List T
  pub misses : ℕ

-- a count of one more, which stands still at 2^64 - 1
abbrev pub one_more : ℕ → ℕ
one_more count = min (count + 1) (2 ^ 64 - 1)
