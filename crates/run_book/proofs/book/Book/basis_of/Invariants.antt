use Rattle.std.proofs.Common.{◌≡◌, ◌++◌}
use Rattle.run_book.specs.Graphs.{own_dots}
use Rattle.run_book.specs.Basis.{stamped_cover}
use Rattle.run_book.proofs.book.Book.basis_of.Given as goal

abbrev pub invariant-loop-before : goal.invariant-loop-before
invariant-loop-before l = l.dots.items ≡ stamped_cover l.self l.replay.vector ++ own_dots l.replay.client l.before
