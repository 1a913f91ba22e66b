use Rattle.run_book.proofs.ReadBases.{told_stands}
use Rattle.run_book.proofs.laws.law_read_stands.Goals as goal

pub returns : goal.returns
returns c = told_stands c.args.book.now
