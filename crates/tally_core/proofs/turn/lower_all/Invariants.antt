use Rattle.std.proofs.Common.{◌≡◌, fold, drop}
use Rattle.ids_core.specs.Ascending.{IsAscending}
use Rattle.tally_core.specs.Cells.{turn, lowers}
use Rattle.tally_core.specs.Parted.{IsParted, seen_of}
use Rattle.tally_core.specs.Room.{CanLower}
use Rattle.tally_core.proofs.turn.lower_all.Given as goal

abbrev pub invariant-loop-id : goal.invariant-loop-id
invariant-loop-id g l = IsParted l.cells × (fold turn (seen_of l.cells) (lowers l.name (drop l.id-index l.over)) ≡ fold turn (seen_of l.fn.cells) (lowers l.name l.over))
    × IsAscending (drop l.id-index l.over) × CanLower l.cells l.name (drop l.id-index l.over)
