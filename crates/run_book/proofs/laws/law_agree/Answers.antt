use Rattle.run_book.proofs.Causal.Theorem.{agrees}
use Rattle.run_book.proofs.laws.law_agree.Goals as goal

pub returns : goal.returns
returns c = agrees c.args.book.now
