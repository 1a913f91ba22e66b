use Rattle.std.proofs.Common.{◌≡◌, [], drop, length, refl, sym, ap, ◌∙◌}
use Rattle.std.proofs.lemmas.List.{drop_all}
use Rattle.ids_core.specs.Ids.{same_object}
use Rattle.script_core.specs.Taps.{state_shown}
use Rattle.run_table.proofs.Looks.{shown_later}
use Rattle.phase_actors.proofs.Reading.{shown_first}
use Rattle.phase_actors.proofs.looking.place_of.Goals as goal

pub places-init : goal.places-init
places-init c = λ states. refl

pub places-preserved : goal.places-preserved
places-preserved c = λ states.
    let first = c.index-objects-place.result in
    let object = c.args.object.now in
    c.places.invariant states
    ∙ shown_later c.args.objects.now states object first c.places.place c.places-test.true
    (ap (λ first. same_object first object) (sym c.index-objects-place.is) ∙ (sym c.eq.ensures ∙ c.if-eq.false))

pub returns-then-eq-clause-some : goal.returns-then-eq-clause-some
returns-then-eq-clause-some c = (
  c.places-test.true,
  λ states.
      let first = c.index-objects-place.result in
      let object = c.args.object.now in
      c.places.invariant states
      ∙ shown_first c.args.objects.now states object first c.places.place c.places-test.true
      (ap (λ first. same_object first object) (sym c.index-objects-place.is) ∙ (sym c.eq.ensures ∙ c.if-eq.true)),
)

pub returns-clause-none : goal.returns-clause-none
returns-clause-none c = λ states.
    let none : drop c.places.place c.args.objects.now ≡ [] = drop_all c.places.place c.args.objects.now c.places-test.false in
    c.places.invariant states ∙ ap (λ objects. state_shown objects (drop c.places.place states) c.args.object.now) none
