use Rattle.journal_pair.proofs.States.{one_state}
use Rattle.journal_pair.proofs.laws.law_one_state.Goals as goal

pub returns : goal.returns
returns g c = one_state
