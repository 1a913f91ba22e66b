use Rattle.load_maker.specs.Made.{flush}
use Rattle.load_maker.proofs.Blocks.{makes_next}
use Rattle.load_maker.proofs.maker.Maker.flushes.Goals as goal

pub loop-before-preserved : goal.loop-before-preserved
loop-before-preserved c = makes_next flush c.loop-before.before _ _ _ c.loop-before.invariant c.in_ok-flush.ensures
