-- The marked operations of transactions on an object.
use Rattle.std.specs.Prelude.{ℕ, ◌+◌, cond, List, [], ◌∷◌}
use Rattle.ids_core.specs.declared.ids.Dot.{Dot}
use Rattle.ids_core.specs.declared.ids.Mark.{Mark}
use Rattle.ids_core.specs.declared.object.ObjectId.{ObjectId}
use Rattle.ids_core.specs.Ids.{same_object}
use Rattle.tx_core.specs.declared.op.Op.{Op}
use Rattle.tx_core.specs.declared.tx.Update.{Update}
use Rattle.tx_core.specs.declared.tx.Tx.{Tx}

-- the mark of the update at a place of a transaction
abbrev pub mark : ℕ → Dot → ℕ → Mark
mark rank dot place = record { rank = rank; id = record { dot = dot; place = place } }

-- the marked operations of the object among updates that begin at a place
abbrev pub ops_from : ObjectId → ℕ → Dot → ℕ → List Update → List (Mark × Op)
ops_from o rank dot place [] = []
ops_from o rank dot place (u ∷ us) = cond (same_object u.object o) ((mark rank dot place, u.op) ∷ ops_from o rank dot (place + 1) us) (ops_from o rank dot (place + 1) us)

-- the marked operations of the object in a transaction
abbrev pub ops_of : ObjectId → Tx → List (Mark × Op)
ops_of o tx = ops_from o tx.rank tx.dot 0 tx.updates
