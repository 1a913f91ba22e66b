use Rattle.read_tap.proofs.Fronts.{AreAlike}
use Rattle.read_tap.proofs.shows.agree.Given as goal

abbrev pub invariant-places : goal.invariant-places
invariant-places l = AreAlike l.place l.tokens l.all
