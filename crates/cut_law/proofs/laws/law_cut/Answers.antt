use Rattle.cut_law.proofs.Cuts.{same_history, same_answers}
use Rattle.cut_law.proofs.laws.law_cut.Goals as goal

pub returns-clause-history : goal.returns-clause-history
returns-clause-history c = same_history

pub returns-clause-answers : goal.returns-clause-answers
returns-clause-answers c = same_answers
