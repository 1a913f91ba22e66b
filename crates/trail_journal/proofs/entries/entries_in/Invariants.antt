use Rattle.std.proofs.Common.{◌≡◌, ◌≤◌, length, take}
use Rattle.trail_kept.specs.Kept.{kept}
use Rattle.trail_journal.proofs.entries.entries_in.Given as goal

abbrev pub invariant-loop-entry : goal.invariant-loop-entry
invariant-loop-entry l = record {
  few : l.count ≤ l.entry-index;
  all : l.count ≡ length (kept (take l.entry-index l.trail));
}
