use Rattle.std.proofs.Common.{◌≡◌, map}
use Rattle.std.specs.List.{range_with_len}
use Rattle.run_book.specs.Basis.{stamped_dots}
use Rattle.run_book.specs.Parts.{trail_of}
use Rattle.run_book.proofs.book.Book.stamped.Given as goal

abbrev pub invariant-loop-before : goal.invariant-loop-before
invariant-loop-before l = l.lists.items ≡ map (λ e. stamped_dots (trail_of l.self e)) (range_with_len 1 l.before)
