use Rattle.run_laws.proofs.InOrder.{one_book}
use Rattle.run_laws.proofs.laws.law_one_book.Goals as goal

pub returns : goal.returns
returns c script one two = one_book script c.args.book.now c.args.other.now one two
