use Rattle.dc_worker.proofs.Repeating.{passed_alike, same_pass, quiet_pass}
use Rattle.dc_worker.proofs.laws.law_settled.Goals as goal

pub returns-clause-kept : goal.returns-clause-kept
returns-clause-kept c = passed_alike

pub returns-clause-same : goal.returns-clause-same
returns-clause-same c = same_pass

pub returns-clause-quiet : goal.returns-clause-quiet
returns-clause-quiet c = quiet_pass
