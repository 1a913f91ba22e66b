-- A fold of operations that came to an early end.
use Rattle.std.specs.Prelude.{◌≡◌, ◌<◌, ℕ, List, length, take}
use Rattle.ids_core.specs.declared.ids.Mark.{Mark}
use Rattle.tx_core.specs.declared.op.Op.{Op}
use Rattle.tx_core.specs.declared.state.State.{State}
use Rattle.tx_core.specs.States.{fold_of}

-- some first ones of the operations, and not all, were folded into a state
pub record FoldsPart (ops : List (Mark × Op)) (old new : State) : Type 0 where
  pub count : ℕ
  pub few : count < length ops
  pub folds : new ≡ fold_of old (take count ops)
