use Rattle.std.proofs.Common.{◌≡◌, ◌-◌, drop}
use Rattle.vv_core.specs.Vectors.{lack_from, lack_of}
use Rattle.vv_core.proofs.vector.Vector.first_lack.Given as goal

abbrev pub invariant-loop-centre : goal.invariant-loop-centre
invariant-loop-centre l = lack_from l.centre (drop (l.centre - 1) l.have) (drop (l.centre - 1) l.need) ≡ lack_of l.have l.need
