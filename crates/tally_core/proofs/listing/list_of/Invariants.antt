use Rattle.std.proofs.Common.{◌≡◌, ◌++◌}
use Rattle.tally_core.proofs.listing.list_of.Given as goal

abbrev pub invariant-loop-place : goal.invariant-loop-place
invariant-loop-place g l = l.list.items ++ l.place-iterator ≡ l.fn.cells.entries
