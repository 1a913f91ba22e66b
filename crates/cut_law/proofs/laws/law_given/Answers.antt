use Rattle.cut_law.proofs.Given.{can_adopt_given, may_start_given}
use Rattle.cut_law.proofs.laws.law_given.Goals as goal

pub returns-clause-adopts : goal.returns-clause-adopts
returns-clause-adopts c = can_adopt_given

pub returns-clause-starts : goal.returns-clause-starts
returns-clause-starts c = may_start_given
