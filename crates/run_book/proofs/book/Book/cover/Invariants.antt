use Rattle.std.proofs.Common.{◌≡◌, ◌-◌, take}
use Rattle.std.specs.Prelude.{flat_map}
use Rattle.vv_core.specs.Vectors.{at, centres}
use Rattle.run_book.specs.Parts.{trail_of}
use Rattle.run_book.specs.Basis.{stamped_dots}
use Rattle.run_book.proofs.book.Book.cover.Given as goal

abbrev pub invariant-loop-centre : goal.invariant-loop-centre
invariant-loop-centre l = l.dots.items ≡ flat_map (λ e. take (at l.vector e) (stamped_dots (trail_of l.self e))) (centres (l.centre - 1))
