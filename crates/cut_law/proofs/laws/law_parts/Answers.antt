use Rattle.cut_law.proofs.Trails.{answer_later}
use Rattle.cut_law.proofs.laws.law_parts.Goals as goal

pub returns : goal.returns
returns c = answer_later
