use Rattle.std.proofs.Common.{◌≡◌, take}
use Rattle.std.specs.Prelude.{filter}
use Rattle.load_text.specs.LastReads.{is_later_value}
use Rattle.load_text.proofs.reads.values_of.Given as goal

abbrev pub invariant-loop-note : goal.invariant-loop-note
invariant-loop-note l = record {
  actor : l.values.actor ≡ l.log.actor;
  notes : l.values.notes ≡ filter (is_later_value l.last) (take l.note-index l.log.notes);
}
