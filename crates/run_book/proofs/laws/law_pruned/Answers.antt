use Rattle.run_book.proofs.Causal.Theorem.{pruned}
use Rattle.run_book.proofs.laws.law_pruned.Goals as goal

pub returns : goal.returns
returns c = pruned c.args.book.now
