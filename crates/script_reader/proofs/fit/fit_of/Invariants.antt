use Rattle.std.proofs.Common.{◌≡◌, drop, length}
use Rattle.std.specs.Prelude.{◌==◌}
use Rattle.script_reader.specs.Words.{texts_of}
use Rattle.script_reader.specs.Forms.{agrees}
use Rattle.script_reader.proofs.fit.fit_of.Given as goal

abbrev pub invariant-loop-part : goal.invariant-loop-part
invariant-loop-part l = record {
  near : agrees l.parts (texts_of l.words) ≡ agrees (drop l.part-index l.parts) (texts_of l.rest);
  count : (length l.parts == length (texts_of l.words)) ≡ (length (drop l.part-index l.parts) == length (texts_of l.rest));
}
