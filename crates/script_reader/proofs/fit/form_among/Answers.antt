use Rattle.std.proofs.Common.{◌∙◌, ap, arith}
use Rattle.std.proofs.lemmas.List.{get_or_default}
use Rattle.script_reader.specs.Words.{texts_of}
use Rattle.script_reader.specs.Forms.{agrees, fits}
use Rattle.script_reader.proofs.Fitting.{form_found, form_missed, none_form_more, form_near, form_far}
use Rattle.script_reader.proofs.fit.form_among.Goals as goal
use Rattle.script_reader.proofs.fit.form_among.Goals.{in-Off, in-Not}

pub returns-in-Whole : goal.returns-in-Whole
returns-in-Whole c =
    form_found c.args.forms.now (texts_of c.args.words.now) c.loop-form.form-index _ c.loop-form-test.true c.loop-form.invariant.none (get_or_default _ _ _ _ c.loop-form-test.true)
    (c.in-Whole.ensures.whole ∙ ap (λ ps. fits ps (texts_of c.args.words.now)) c.parts.ensures)

pub loop-form-preserved : goal.loop-form-preserved
loop-form-preserved c =
    let texts = texts_of c.args.words.now in
    let is = get_or_default c.args.forms.now c.loop-form.form-index _ _ c.loop-form-test.true in
    let whole = ap (λ ps. fits ps texts) c.parts.ensures in
    let near = ap (λ ps. agrees ps texts) c.parts.ensures in
    elim c.match-fit_of.branch [
      | in-Off w ↦ record {
        none = none_form_more c.args.forms.now texts c.loop-form.form-index _ c.loop-form-test.true c.loop-form.invariant.none is (w.in-Off.ensures.whole ∙ whole);
        why = form_near c.args.forms.now texts c.loop-form.form-index _ c.match-fit_of.why c.loop-form-test.true is (w.in-Off.ensures.near ∙ near) w.why-is;
      }
      | in-Not w ↦ record {
        none = none_form_more c.args.forms.now texts c.loop-form.form-index _ c.loop-form-test.true c.loop-form.invariant.none is (w.in-Not.ensures.whole ∙ whole);
        why = form_far c.args.forms.now texts c.loop-form.form-index _ c.match-fit_of.why c.loop-form.why c.loop-form-test.true is (w.in-Not.ensures.near ∙ near) w.why-is c.loop-form.invariant.why;
      }
    ]

pub returns : goal.returns
returns c = form_missed c.args.forms.now (texts_of c.args.words.now) c.loop-form.form-index c.loop-form.why (omega arith) c.loop-form.invariant.none c.loop-form.invariant.why
