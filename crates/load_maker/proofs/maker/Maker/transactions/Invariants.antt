use Rattle.load_maker.specs.Made.{Makes, transactions}
use Rattle.load_maker.proofs.maker.Maker.transactions.Given as goal

abbrev pub invariant-loop-turn : goal.invariant-loop-turn
invariant-loop-turn l = Makes (transactions l.client l._turn) l.fn.self l.self
