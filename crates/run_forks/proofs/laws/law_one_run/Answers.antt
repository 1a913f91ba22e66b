use Rattle.run_forks.proofs.OneRun.{one_run}
use Rattle.run_forks.proofs.laws.law_one_run.Goals as goal

pub returns : goal.returns
returns c = one_run
