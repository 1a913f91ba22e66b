use Rattle.std.proofs.Common.{◌≡◌, ◌++◌}
use Rattle.tally_core.specs.Live.{kept_in}
use Rattle.tally_core.proofs.Fronts.{front, from_name}
use Rattle.tally_core.proofs.live.kept_from.Given as goal

abbrev pub invariant-loop-place : goal.invariant-loop-place
invariant-loop-place g l = l.list.items ++ kept_in (front l.name l.place-iterator) ≡ kept_in (front l.name (from_name l.name l.fn.cells.entries))
