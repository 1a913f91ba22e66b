use Rattle.std.proofs.Common.{◌≡◌}
use Rattle.tally_core.specs.Parted.{IsParted, seen_of}
use Rattle.tally_core.proofs.room.clear_room.Given as goal

abbrev pub invariant-loop-id : goal.invariant-loop-id
invariant-loop-id g l = IsParted l.cells × (seen_of l.cells ≡ seen_of l.fn.cells)
