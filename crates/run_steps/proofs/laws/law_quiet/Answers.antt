use Rattle.run_steps.proofs.Quiet.{between}
use Rattle.run_steps.proofs.laws.law_quiet.Goals as goal

pub returns : goal.returns
returns c = λ n client capacity first count notes quiet few. between n client capacity notes first count quiet few
