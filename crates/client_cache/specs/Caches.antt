-- What a cache is seen as.
use Rattle.std.specs.Prelude.{ℕ, List}
use Rattle.tx_core.specs.declared.state.State.{State}
use Rattle.dc_talk.specs.declared.calls.Cached.{Cached}

-- a state of an object at a vector
pub record StateAt : Type 0 where
  pub vector : List ℕ
  pub state : State

-- the entries, the most recently used first, and the most that there may be
pub record Entries : Type 0 where
  pub entries : List Cached
  pub capacity : ℕ
