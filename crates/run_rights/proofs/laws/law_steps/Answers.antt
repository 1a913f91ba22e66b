use Rattle.run_rights.proofs.Steps.{checks_takings}
use Rattle.run_rights.proofs.laws.law_steps.Goals as goal

pub returns : goal.returns
returns c = λ setup owner gains losses fit few goes. checks_takings c.args.book.now setup fit owner gains losses few goes
