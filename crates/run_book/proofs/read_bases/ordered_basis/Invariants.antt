use Rattle.std.proofs.Common.{◌≡◌, ◌++◌, length, take}
use Rattle.std.specs.Prelude.{flat_map}
use Rattle.vv_core.specs.Vectors.{at, centres}
use Rattle.run_book.specs.Graphs.{own_dots}
use Rattle.run_book.specs.ReadBases.{stamped_at}
use Rattle.run_book.proofs.read_bases.ordered_basis.Given as goal

abbrev pub invariant-loop-before : goal.invariant-loop-before
invariant-loop-before l = l.dots.items ≡ flat_map (λ e. take (at l.replay.vector e) (stamped_at l.stamped e)) (centres (length l.replay.vector)) ++ own_dots l.replay.client l.before
