use Rattle.std.proofs.Common.{◌≡◌, ◌++◌, None}
use Rattle.tally_core.specs.Live.{names_after}
use Rattle.tally_core.proofs.live.names_in.Given as goal

abbrev pub invariant-loop-place : goal.invariant-loop-place
invariant-loop-place g l = l.list.items ++ names_after l.last l.place-iterator ≡ names_after None l.fn.cells.entries
