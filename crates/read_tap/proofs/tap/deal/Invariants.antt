use Rattle.std.proofs.Common.{◌≡◌, take}
use Rattle.std.specs.Prelude.{replicate}
use Rattle.read_tap.specs.Shows.{shows_in}
use Rattle.read_tap.proofs.tap.deal.Given as goal

abbrev pub invariant-readers : goal.invariant-readers
invariant-readers g l = l.all.items ≡ replicate l._reader (shows_in l.shows.table (take 1 l.shows.shows))
