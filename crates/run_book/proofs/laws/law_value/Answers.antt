use Rattle.run_book.proofs.Causal.Theorem.{values}
use Rattle.run_book.proofs.laws.law_value.Goals as goal

pub returns : goal.returns
returns c = values c.args.book.now
