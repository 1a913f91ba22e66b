use Rattle.tally_core.proofs.Commutes.{step_commutes}
use Rattle.tally_core.proofs.changes.law_order.Goals as goal

pub returns : goal.returns
returns g c does = step_commutes does
