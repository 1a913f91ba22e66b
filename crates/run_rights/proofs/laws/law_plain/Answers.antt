use Rattle.run_rights.proofs.Spared.{spared}
use Rattle.run_rights.proofs.laws.law_plain.Goals as goal

pub returns : goal.returns
returns c = spared
