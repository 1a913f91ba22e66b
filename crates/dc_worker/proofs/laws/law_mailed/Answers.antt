use Rattle.script_core.proofs.Mailing.{mailed_route, mailed_other, mailed_more, mailed_sent}
use Rattle.script_core.proofs.RoundDeeds.{mailed_round}
use Rattle.dc_worker.proofs.laws.law_mailed.Goals as goal

pub returns-clause-route : goal.returns-clause-route
returns-clause-route c = mailed_route

pub returns-clause-other : goal.returns-clause-other
returns-clause-other c = mailed_other

pub returns-clause-more : goal.returns-clause-more
returns-clause-more c = mailed_more

pub returns-clause-round : goal.returns-clause-round
returns-clause-round c = mailed_round

pub returns-clause-sent : goal.returns-clause-sent
returns-clause-sent c = mailed_sent
