use Rattle.run_laws.proofs.InOrder.{one_either_way, one_by_sections}
use Rattle.run_laws.proofs.laws.law_no_phase.Goals as goal

pub returns-clause-alike : goal.returns-clause-alike
returns-clause-alike c script range lines one two = one_either_way script c.args.book.now c.args.other.now range lines one two

pub returns-clause-again : goal.returns-clause-again
returns-clause-again c script range lines one two = one_by_sections script c.args.book.now c.args.other.now range lines one two
