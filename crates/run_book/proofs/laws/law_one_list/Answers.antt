use Rattle.run_book.proofs.Causal.Theorem.{one_list}
use Rattle.run_book.proofs.laws.law_one_list.Goals as goal

pub returns : goal.returns
returns c = one_list c.args.book.now
