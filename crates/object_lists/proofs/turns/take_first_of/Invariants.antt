use Rattle.std.proofs.Common.{◌≡◌, take, drop}
use Rattle.ids_core.specs.declared.object.ObjectId.{ObjectId}
use Rattle.object_lists.specs.Listed.{listed, counted}
use Rattle.object_lists.proofs.turns.take_first_of.Given as goal

abbrev pub invariant-loop-update : goal.invariant-loop-update
invariant-loop-update g l = (o : ObjectId) → listed l.lists o ≡ drop (counted o (take l.update-index l.updates)) (listed l.fn.lists o)
