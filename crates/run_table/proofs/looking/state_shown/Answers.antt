use Rattle.std.proofs.Common.{sym, ap, ◌∙◌}
use Rattle.ids_core.specs.Ids.{same_object}
use Rattle.run_table.proofs.Looks.{shown_later}
use Rattle.run_table.proofs.looking.state_shown.Goals as goal

pub places-preserved : goal.places-preserved
places-preserved c =
    let first = c.index-objects-place.result in
    let object = c.args.object.now in
    c.places.invariant
    ∙ shown_later c.args.objects.now c.args.states.now object first c.places.place c.places-test.true
    (ap (λ first. same_object first object) (sym c.index-objects-place.is) ∙ (sym c.eq.ensures ∙ c.if-eq.false))
