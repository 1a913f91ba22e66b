use Rattle.std.proofs.Common.{inl, inr, refl, ap}
use Rattle.point_log.specs.Served.{served_of}
use Rattle.point_log.proofs.served.make_room.Goals as goal

pub returns-then-len-lt-MOST_SERVED : goal.returns-then-len-lt-MOST_SERVED
returns-then-len-lt-MOST_SERVED c o = inl refl

pub returns : goal.returns
returns c o = inr (ap (λ es. served_of es o) c.clear.ensures.empty)
