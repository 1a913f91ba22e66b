use Rattle.tally_core.proofs.Alive.{live_by_ops}
use Rattle.tally_core.proofs.changes.law_live.Goals as goal

pub returns : goal.returns
returns g c does ops m d t = live_by_ops does ops m d t
