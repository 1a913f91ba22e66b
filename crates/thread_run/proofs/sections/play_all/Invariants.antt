use Rattle.std.proofs.Common.{◌≡◌, take}
use Rattle.thread_run.specs.Played.{HasRun}
use Rattle.thread_run.proofs.sections.play_all.Given as goal

abbrev pub invariant-sections : goal.invariant-sections
invariant-sections g l = record {
  number : l.number ≡ l.section-index;
  run : HasRun l.script (take l.section-index l.sections) l.table;
}
