use Rattle.run_book.proofs.Causal.Theorem.{known_bases}
use Rattle.run_book.proofs.laws.law_known.Goals as goal

pub returns : goal.returns
returns c = known_bases c.args.book.now
