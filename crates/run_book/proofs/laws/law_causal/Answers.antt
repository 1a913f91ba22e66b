use Rattle.run_book.proofs.Causal.Theorem.{causal}
use Rattle.run_book.proofs.laws.law_causal.Goals as goal

pub returns : goal.returns
returns c = causal c.args.book.now
