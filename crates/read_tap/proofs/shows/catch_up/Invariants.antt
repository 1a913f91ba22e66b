use Rattle.std.proofs.Common.{◌≡◌, length}
use Rattle.read_tap.specs.Shows.{IsFront, ArePlaced}
use Rattle.read_tap.proofs.shows.catch_up.Given as goal

abbrev pub invariant-places : goal.invariant-places
invariant-places l = ArePlaced l.table l.tokens.items × IsFront l.initial.tokens.items l.tokens.items × (l.place ≡ length l.tokens.items)
