use Rattle.run_rights.proofs.Guarding.{bounded}
use Rattle.run_rights.proofs.laws.law_bounded.Goals as goal

pub returns : goal.returns
returns c = λ setup owner gains losses set fit apart takes closed. bounded c.args.book.now setup fit owner gains losses takes apart set closed
