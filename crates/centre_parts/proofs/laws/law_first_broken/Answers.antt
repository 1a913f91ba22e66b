use Rattle.centre_parts.proofs.Firsts.{one_broken}
use Rattle.centre_parts.proofs.laws.law_first_broken.Goals as goal

pub returns : goal.returns
returns c = record { none = λ parts condition first is. first.broken (is.meets condition); one = one_broken }
