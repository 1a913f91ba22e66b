use Rattle.std.proofs.Common.{take}
use Rattle.std.specs.Prelude.{All}
use Rattle.read_tap.specs.Shows.{ShowsView, IsFront}
use Rattle.read_tap.proofs.tap.are_fronts.Given as goal

abbrev pub invariant-readers : goal.invariant-readers
invariant-readers l = All (λ (reader : ShowsView). IsFront reader.shows l.shows.shows) (take l.reader-index l.readers)
