use Rattle.load_maker.specs.Made.{last_read}
use Rattle.load_maker.proofs.Blocks.{makes_next}
use Rattle.load_maker.proofs.maker.Maker.last_reads.Goals as goal

pub loop-before-preserved : goal.loop-before-preserved
loop-before-preserved c = makes_next last_read c.loop-before.before _ _ _ c.loop-before.invariant c.in_ok-put.ensures
