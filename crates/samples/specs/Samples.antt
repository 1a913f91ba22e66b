-- The updates of the tests.
use Rattle.std.specs.Prelude.{ℤ, List, map}
use Rattle.ids_core.specs.declared.object.ObjectId.{ObjectId}
use Rattle.tx_core.specs.declared.op.Op.TheVariants.{Inc}
use Rattle.tx_core.specs.declared.tx.Update.{Update}

-- the update that adds a delta to an object
abbrev pub inc_of : ObjectId → ℤ → Update
inc_of object delta = record { object = object; op = Inc delta }

-- the updates that add deltas to an object, in their order
abbrev pub incs_of : ObjectId → List ℤ → List Update
incs_of object deltas = map (inc_of object) deltas
