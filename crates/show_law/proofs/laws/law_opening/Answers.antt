use Rattle.std.proofs.Common.{refl}
use Rattle.show_law.proofs.Showing.{opening_stays}
use Rattle.show_law.proofs.laws.law_opening.Goals as goal

pub returns : goal.returns
returns c = record { base = λ s objects. refl; states = opening_stays }
