use Rattle.tally_core.proofs.Folded.{fold_defined}
use Rattle.tally_core.proofs.changes.law_tallies.Goals as goal

pub returns : goal.returns
returns g c does ops = fold_defined does ops
