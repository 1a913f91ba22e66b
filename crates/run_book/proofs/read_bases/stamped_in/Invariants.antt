use Rattle.std.proofs.Common.{◌≡◌, take}
use Rattle.run_book.specs.Basis.{stamped_dots}
use Rattle.run_book.proofs.read_bases.stamped_in.Given as goal

abbrev pub invariant-loop-entry : goal.invariant-loop-entry
invariant-loop-entry l = l.dots ≡ stamped_dots (take l.entry-index l.trail)
