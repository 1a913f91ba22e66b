use Rattle.cut_law.proofs.CutOf.{cut_of}
use Rattle.cut_law.proofs.OneCut.{one_cut_of}
use Rattle.cut_law.proofs.laws.law_one_cut.Goals as goal

pub returns-clause-some : goal.returns-clause-some
returns-clause-some c = cut_of

pub returns-clause-one : goal.returns-clause-one
returns-clause-one c = one_cut_of
