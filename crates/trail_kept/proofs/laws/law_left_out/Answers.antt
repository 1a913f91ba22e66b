use Rattle.trail_kept.specs.Kept.{kept}
use Rattle.trail_kept.proofs.Left.{left_out, same_answer}
use Rattle.trail_kept.proofs.Histories.{history_kept}
use Rattle.trail_kept.proofs.laws.law_left_out.Goals as goal

pub returns-clause-state : goal.returns-clause-state
returns-clause-state c = left_out

pub returns-clause-answers : goal.returns-clause-answers
returns-clause-answers c = λ s trail ask. same_answer s (kept trail) trail (left_out s trail) ask

pub returns-clause-history : goal.returns-clause-history
returns-clause-history c = history_kept
