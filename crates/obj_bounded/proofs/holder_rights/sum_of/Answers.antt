use Rattle.obj_bounded.proofs.Wrapping.{sum_done}
use Rattle.obj_bounded.proofs.holder_rights.sum_of.Goals as goal

pub returns : goal.returns
returns c = sum_done c.args.values.now c.loop-value.value-index _ c.loop-value-test.false c.loop-value.invariant
