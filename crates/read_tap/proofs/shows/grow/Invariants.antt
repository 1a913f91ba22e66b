use Rattle.read_tap.specs.Shows.{IsFront, ArePlaced}
use Rattle.read_tap.proofs.shows.grow.Given as goal

abbrev pub invariant-turns : goal.invariant-turns
invariant-turns l = ArePlaced l.table l.tokens.items × IsFront l.initial.tokens.items l.tokens.items
