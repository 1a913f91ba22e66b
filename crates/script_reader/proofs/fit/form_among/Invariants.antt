use Rattle.std.proofs.Common.{◌≡◌, take}
use Rattle.std.specs.Prelude.{find, cond, None}
use Rattle.std.specs.List.{list_any}
use Rattle.script_reader.specs.declared.fault.Cause.TheVariants.{Count, Word}
use Rattle.script_reader.specs.Words.{texts_of}
use Rattle.script_reader.specs.Forms.{agrees, fits, parts_of}
use Rattle.script_reader.proofs.fit.form_among.Given as goal

abbrev pub invariant-loop-form : goal.invariant-loop-form
invariant-loop-form l = record {
  none : find (λ one. fits (parts_of one) (texts_of l.words)) (take l.form-index l.forms) ≡ None;
  why : l.why ≡ cond (list_any (λ one. agrees (parts_of one) (texts_of l.words)) (take l.form-index l.forms)) Count Word;
}
