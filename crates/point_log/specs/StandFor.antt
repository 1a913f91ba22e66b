-- A point and a log that together stand for applied records, and what they tell of them.
use Rattle.std.specs.Prelude.{ℕ, ◌+◌, Bool, cond, max, length, List, filter}
use Rattle.ids_core.specs.declared.object.ObjectId.{ObjectId}
use Rattle.tx_core.specs.declared.tx.Tx.{Tx}
use Rattle.tx_core.specs.declared.tx.Record.{Record}
use Rattle.tx_core.specs.declared.state.State.{State}
use Rattle.tx_core.specs.States.{fold_of}
use Rattle.op_log.specs.Logs.{LogView, chain_of, is_inside_at, mine_in, within_of, with_record, with_stamp}
use Rattle.check_point.specs.Points.{PointView, IsPointOf, state_of, number_of}
use Rattle.point_log.specs.LogSplits.{IsLogSplit, ops_in}

-- of the records A all that is within the point's vector was folded into the point, and the log has the rest
pub record StandFor (A : List Record) (point : PointView) (kept : LogView) : Type 0 where
  pub folded : List Tx
  pub at_point : IsPointOf point folded
  pub in_log : IsLogSplit A point.vector folded kept

-- the state of an object at a vector that they tell: that of the point, and the operations on the object in the log
-- whose transaction has a stamp within the vector
abbrev pub state_told : PointView → LogView → ObjectId → List ℕ → State
state_told point kept o w = fold_of (state_of point o) (ops_in (filter (λ c. is_inside_at w c.tx kept.items) (chain_of o kept.items)))

-- the greatest number of a client within a vector that they tell
abbrev pub mine_told : PointView → LogView → ℕ → List ℕ → ℕ
mine_told point kept client w = max (number_of point client) (mine_in client w kept.items)

-- how many transactions they tell to be within a vector
abbrev pub count_told : PointView → LogView → List ℕ → ℕ
count_told point kept w = point.folded + length (within_of w kept.items)

-- the log with one record more, which is the first of its transaction or gives it one stamp more
abbrev pub with_one : LogView → Record → Bool → LogView
with_one kept r fresh = cond fresh (with_record kept r) (record kept { items = with_stamp r.tx.dot r.stamp kept.items })
