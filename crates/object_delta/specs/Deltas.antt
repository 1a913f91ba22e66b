-- What a log has of the operations on an object that came between two vectors.
use Rattle.std.specs.Prelude.{ℕ, cond, nat_le, length, List, filter, Option, Some, None}
use Rattle.ids_core.specs.declared.ids.Mark.{Mark}
use Rattle.ids_core.specs.declared.object.ObjectId.{ObjectId}
use Rattle.tx_core.specs.declared.op.Op.{Op}
use Rattle.dc_talk.specs.declared.ask.TheConstants.{MOST_CHANGES}
use Rattle.op_log.specs.Logs.{LogView, chain_of}
use Rattle.point_log.specs.LogSplits.{ops_in}
use Rattle.point_log.specs.Served.{is_since}

-- the operations whose transaction has a stamp within the vector and none within the one before
abbrev pub ops_told : LogView → ObjectId → List ℕ → List ℕ → List (Mark × Op)
ops_told kept o before w = ops_in (filter (is_since before w kept.items) (chain_of o kept.items))

-- the operations, where they are few
abbrev pub if_few : List (Mark × Op) → Option (List (Mark × Op))
if_few ops = cond (nat_le (length ops) MOST_CHANGES) (Some ops) None
