-- Operations found by their objects.
use Rattle.std.specs.Prelude.{◌≡◌, List, flat_map}
use Rattle.ids_core.specs.declared.ids.Mark.{Mark}
use Rattle.ids_core.specs.declared.object.ObjectId.{ObjectId}
use Rattle.tx_core.specs.declared.op.Op.{Op}
use Rattle.tx_core.specs.declared.tx.Tx.{Tx}
use Rattle.tx_core.specs.Operations.{ops_of}
use Rattle.object_lists.specs.Listed.{listed}

-- for each object its operations in the transactions are listed
abbrev pub Finds : List (ObjectId × List (Mark × Op)) → List Tx → Type 0
Finds index txs = (o : ObjectId) → listed index o ≡ flat_map (ops_of o) txs
