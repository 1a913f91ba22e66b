use Rattle.std.proofs.Common.{◌≡◌, [], length, sym, ◌∙◌, subst}
use Rattle.std.specs.Prelude.{All}
use Rattle.std.proofs.lemmas.Bool.{eqb-true}
use Rattle.std.proofs.lemmas.List.{take_all, nil_from_length}
use Rattle.std.proofs.lemmas.List.Elements.{All-more}
use Rattle.script_core.specs.declared.taps.TapState.{TapState}
use Rattle.thread_run.proofs.tapping.have_objects.Goals as goal

pub taps-preserved : goal.taps-preserved
taps-preserved c =
    let taps = c.args.taps.now in
    let tap = c.tap-item.result in
    let none : tap.objects ≡ [] = nil_from_length tap.objects (eqb-true (length tap.objects) 0 (sym c.is_empty.ensures ∙ c.if-not-is_empty.false)) in
    All-more (λ (tap : TapState). tap.objects ≡ []) taps c.taps.tap-index tap c.taps-test.true c.taps.invariant (subst (λ (tap : TapState). tap.objects ≡ []) c.tap-item.is none)

pub returns : goal.returns
returns c =
    let taps = c.args.taps.now in
    subst (All (λ (tap : TapState). tap.objects ≡ [])) (take_all c.taps.tap-index taps c.taps-test.false) c.taps.invariant
