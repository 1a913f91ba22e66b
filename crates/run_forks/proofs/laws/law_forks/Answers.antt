use Rattle.run_forks.proofs.ClientForks.{step_fork}
use Rattle.run_forks.proofs.OperatorForks.{order_fork}
use Rattle.run_forks.proofs.WorkerForks.{sender_fork, receiver_fork, reporter_fork, pruner_fork}
use Rattle.run_forks.proofs.laws.law_forks.Goals as goal

pub returns-clause-client : goal.returns-clause-client
returns-clause-client c = step_fork

pub returns-clause-operator : goal.returns-clause-operator
returns-clause-operator c = order_fork

pub returns-clause-sender : goal.returns-clause-sender
returns-clause-sender c = sender_fork

pub returns-clause-receiver : goal.returns-clause-receiver
returns-clause-receiver c = receiver_fork

pub returns-clause-reporter : goal.returns-clause-reporter
returns-clause-reporter c = reporter_fork

pub returns-clause-pruner : goal.returns-clause-pruner
returns-clause-pruner c = pruner_fork
