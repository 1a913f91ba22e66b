use Rattle.load_maker.specs.Made.{Makes, last_reads}
use Rattle.load_maker.proofs.maker.Maker.last_reads.Given as goal

abbrev pub invariant-loop-before : goal.invariant-loop-before
invariant-loop-before l = Makes (last_reads l.before) l.fn.self l.self
