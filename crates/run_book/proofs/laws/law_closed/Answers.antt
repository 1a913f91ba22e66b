use Rattle.run_book.proofs.Causal.Theorem.{closed_bases}
use Rattle.run_book.proofs.laws.law_closed.Goals as goal

pub returns : goal.returns
returns c = closed_bases c.args.book.now
