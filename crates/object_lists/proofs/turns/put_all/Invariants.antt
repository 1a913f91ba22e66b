use Rattle.std.proofs.Common.{◌≡◌, ◌++◌, take, map}
use Rattle.ids_core.specs.declared.object.ObjectId.{ObjectId}
use Rattle.tx_core.specs.Operations.{ops_from}
use Rattle.object_lists.specs.Listed.{listed}
use Rattle.object_lists.proofs.turns.put_all.Given as goal

abbrev pub invariant-loop-place : goal.invariant-loop-place
invariant-loop-place g l = (o : ObjectId) → listed l.lists o ≡ listed l.fn.lists o ++ map (g.T.Entry.entry_of l.number) (ops_from o l.rank l.dot 0 (take l.place l.updates))
