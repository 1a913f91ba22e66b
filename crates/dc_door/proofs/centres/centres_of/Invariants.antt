use Rattle.std.proofs.Common.{◌≡◌}
use Rattle.std.specs.Prelude.{All}
use Rattle.dc_door.specs.Centres.{all_seen, IsKeptCentre}
use Rattle.dc_door.proofs.NewCentres.{centres_below}
use Rattle.dc_door.proofs.centres.centres_of.Given as goal

abbrev pub invariant-centres : goal.invariant-centres
invariant-centres l = (all_seen l.kept.items ≡ centres_below l.n l.k l.limit l.me) × All IsKeptCentre l.kept.items
