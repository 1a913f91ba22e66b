use Rattle.settle_law.proofs.Settled.{pass_settles, settles, together_by}
use Rattle.settle_law.proofs.laws.law_settle.Goals as goal

pub returns-clause-pass : goal.returns-clause-pass
returns-clause-pass c = pass_settles

pub returns-clause-settles : goal.returns-clause-settles
returns-clause-settles c = settles

pub returns-clause-moment : goal.returns-clause-moment
returns-clause-moment c = together_by
