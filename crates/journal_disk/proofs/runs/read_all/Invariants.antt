use Rattle.std.proofs.Common.{◌≤◌, List}
use Rattle.journal_disk.specs.declared.disk.Moment.{Moment}
use Rattle.journal_disk.specs.Disk.{seen}
use Rattle.journal_disk.proofs.Fronts.{IsFront}
use Rattle.journal_disk.proofs.runs.read_all.Given as goal

abbrev pub invariant-loop-turn : goal.invariant-loop-turn
invariant-loop-turn g l = record {
  stands : (h : List Moment) → g.D.Disk.stands l.fn.disk h → g.D.Disk.stands l.disk h;
  honest : g.D.Disk.is_honest l.disk → g.D.Disk.is_honest l.fn.disk;
  faults : g.D.Disk.faults l.fn.disk ≤ g.D.Disk.faults l.disk;
  front : g.D.Disk.is_honest l.disk → (h : List Moment) → g.D.Disk.stands l.fn.disk h → IsFront l.bytes.items (seen h);
}
