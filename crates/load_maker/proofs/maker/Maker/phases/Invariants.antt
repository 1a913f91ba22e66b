use Rattle.load_maker.specs.Made.{Makes, phases}
use Rattle.load_maker.proofs.maker.Maker.phases.Given as goal

abbrev pub invariant-loop-phase : goal.invariant-loop-phase
invariant-loop-phase l = Makes (phases l.turns l.clients l._phase) l.fn.self l.self
