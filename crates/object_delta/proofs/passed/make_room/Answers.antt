use Rattle.std.proofs.Common.{inl, inr, refl, ap}
use Rattle.object_delta.specs.Passed.{passed_of}
use Rattle.object_delta.proofs.passed.make_room.Goals as goal

pub returns-then-len-lt-MOST_PASSED : goal.returns-then-len-lt-MOST_PASSED
returns-then-len-lt-MOST_PASSED c o = inl refl

pub returns : goal.returns
returns c o = inr (ap (λ es. passed_of es o) c.clear.ensures.empty)
