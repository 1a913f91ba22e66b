use Rattle.std.proofs.Common.{◌≡◌, ◌≤◌, take}
use Rattle.vv_core.specs.Vectors.{most}
use Rattle.load_text.specs.LastReads.{phases_from}
use Rattle.load_text.proofs.last.last_in.Given as goal

abbrev pub invariant-loop-section : goal.invariant-loop-section
invariant-loop-section l = record {
  number : l.number ≡ l.section-index;
  low : l.last ≤ l.section-index;
  last : l.last ≡ most (phases_from 1 (take l.section-index l.sections));
}
