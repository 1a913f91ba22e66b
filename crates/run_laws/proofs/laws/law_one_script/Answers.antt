use Rattle.run_laws.proofs.Scripts.{one_script}
use Rattle.run_laws.proofs.laws.law_one_script.Goals as goal

pub returns : goal.returns
returns c = one_script
