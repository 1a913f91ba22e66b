use Rattle.object_lists.specs.Listed.{listed}
use Rattle.object_lists.proofs.Ops.{first_more}
use Rattle.object_lists.proofs.turns.take_first_of.Goals as goal

pub loop-update-preserved : goal.loop-update-preserved
loop-update-preserved g c = first_more (listed c.args.lists.now) (listed c.loop-update.lists) (listed c.take_first.new.self) c.args.updates.now c.loop-update.update-index c.update-item.result c.loop-update-test.true c.update-item.is c.loop-update.invariant c.take_first.ensures.there c.take_first.ensures.apart
