use Rattle.load_maker.specs.Made.{Makes, loads}
use Rattle.load_maker.proofs.maker.Maker.loads.Given as goal

abbrev pub invariant-loop-before : goal.invariant-loop-before
invariant-loop-before l = Makes (loads l.turns l.before) l.fn.self l.self
