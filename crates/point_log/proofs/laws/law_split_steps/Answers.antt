use Rattle.point_log.proofs.Growth.{split_none, split_first, split_again, split_on}
use Rattle.point_log.proofs.laws.law_split_steps.Goals as goal

pub returns : goal.returns
returns c = record { none = split_none; first = split_first; again = split_again; on = split_on }
