use Rattle.std.proofs.Common.{◌≤◌, ◌-◌, length, take}
use Rattle.point_log.specs.Served.{AreInside}
use Rattle.point_log.proofs.served.first_inside.Given as goal

abbrev pub invariant-loop-done : goal.invariant-loop-done
invariant-loop-done l = record {
  few : l.done ≤ length l.cells;
  first : AreInside l.at l.log.items (take l.done l.cells);
}

abbrev pub decreases-loop-done : goal.decreases-loop-done
decreases-loop-done l = length l.cells - l.done
