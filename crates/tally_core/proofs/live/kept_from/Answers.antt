use Rattle.std.proofs.Common.{◌≡◌, [], ap, refl}
use Rattle.tally_core.specs.Live.{kept_in}
use Rattle.tally_core.proofs.Fronts.{front, front_other, front_done}
use Rattle.tally_core.proofs.live.kept_from.Goals as goal
use Rattle.tally_core.proofs.live.kept_from.Goals.{in-None, in-Some+then-not-is_eq}

pub returns-clause-list : goal.returns-clause-list
returns-clause-list g c =
    let name = c.args.name.now in
    let over : front name c.loop-place.place-iterator ≡ [] = elim c.match-next.branch [
      | in-None w ↦ ap (front name) w.in-None.ensures.steps.0
      | in-Some+then-not-is_eq w ↦ front_other name _ _ w.in-Some.place.now w.in-Some.cell.now w.cmp.result w.in-Some.ensures.steps w.cmp.ensures w.if-not-is_eq.ensures
    ] in
    front_done kept_in name c.args.cells.now.entries c.loop-place.place-iterator c.loop-place.list.items c.range-place-items.ensures.ordered refl over c.loop-place.invariant
