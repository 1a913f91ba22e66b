use Rattle.std.proofs.Common.{◌≡◌, take, length, ◌-◌}
use Rattle.ids_core.specs.declared.object.ObjectId.{ObjectId}
use Rattle.object_lists.specs.Listed.{listed, counted}
use Rattle.object_lists.proofs.turns.take_last_of.Given as goal

abbrev pub invariant-loop-update : goal.invariant-loop-update
invariant-loop-update g l = (o : ObjectId) → listed l.lists o ≡ take (length (listed l.fn.lists o) - counted o (take l.update-index l.updates)) (listed l.fn.lists o)
