use Rattle.load_maker.specs.Made.{Makes, flushes}
use Rattle.load_maker.proofs.maker.Maker.flushes.Given as goal

abbrev pub invariant-loop-before : goal.invariant-loop-before
invariant-loop-before l = Makes (flushes l.before) l.fn.self l.self
