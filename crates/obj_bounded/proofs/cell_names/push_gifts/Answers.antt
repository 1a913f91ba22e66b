use Rattle.std.proofs.Common.{arith}
use Rattle.obj_bounded.specs.CellNames.{cell_name}
use Rattle.obj_bounded.proofs.Pushing.{gifts_more}
use Rattle.obj_bounded.proofs.cell_names.push_gifts.Goals as goal

pub loop-to-preserved : goal.loop-to-preserved
loop-to-preserved c = gifts_more (cell_name c.args.name.now c.args.holder) c.args.holder c.loop-to.to c.args.names.now.items c.loop-to.names.items c.push_gift.new.names.items (omega arith) c.loop-to.invariant c.in_ok-push_gift.ensures.other c.in_ok-push_gift.ensures.itself
