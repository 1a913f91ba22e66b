use Rattle.std.proofs.Common.{◌≡◌, ◌-◌, take}
use Rattle.std.specs.Prelude.{flat_map}
use Rattle.vv_core.specs.Vectors.{at, centres}
use Rattle.run_book.specs.ReadBases.{stamped_at}
use Rattle.run_book.proofs.read_bases.covered.Given as goal

abbrev pub invariant-loop-centre : goal.invariant-loop-centre
invariant-loop-centre l = l.dots.items ≡ flat_map (λ e. take (at l.vector e) (stamped_at l.stamped e)) (centres (l.centre - 1))
