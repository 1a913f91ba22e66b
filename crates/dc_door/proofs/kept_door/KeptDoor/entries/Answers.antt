use Rattle.std.proofs.Common.{◌≡◌, suc, ◌-◌, List, Some, None, length, refl, ap, ◌∙◌, sym, subst, arith}
use Rattle.std.specs.Prelude.{slice_get}
use Rattle.std.proofs.lemmas.Bool.{ltb-true, ltb-false}
use Rattle.std.proofs.lemmas.Option.{slice_get_read, slice_get_past}
use Rattle.dc_door.specs.Centres.{KeptCentre}
use Rattle.dc_door.specs.KeptDoors.{KeptView, trail_at}
use Rattle.dc_door.proofs.Trails.{trail_found, trail_none}
use Rattle.dc_door.proofs.kept_door.KeptDoor.entries.Goals as goal

pub returns-in-Some : goal.returns-in-Some
returns-in-Some c =
    let place : c.args.centre ≡ suc (c.from.result - 1) = omega (arith, c.from.ensures, c.if-centre-eq0.false) in
    let read : slice_get c.deref.result.now (c.from.result - 1) ≡ Some c.in-Some.one.now = slice_get_read c.deref.result.now (length c.deref.result.now) (c.from.result - 1) c.in-Some.one.now refl (ltb-true _ _ (sym c.in-Some.ensures.lookup.0)) c.in-Some.ensures.lookup.1 in
    let there : slice_get c.self.inside.kept.items (c.from.result - 1) ≡ Some c.in-Some.one.now = subst (λ (kept : List KeptCentre). slice_get kept (c.from.result - 1) ≡ Some c.in-Some.one.now) c.deref.ensures.value read in
    c.as_slice.ensures ∙ (trail_found c.self.inside.kept.items (c.from.result - 1) c.args.centre c.in-Some.one.now place there ∙ ap (λ (door : KeptView). trail_at door.centres c.args.centre) c.self.view_is)

pub returns-in-None : goal.returns-in-None
returns-in-None c =
    let place : c.args.centre ≡ suc (c.from.result - 1) = omega (arith, c.from.ensures, c.if-centre-eq0.false) in
    let past : slice_get c.deref.result.now (c.from.result - 1) ≡ None = slice_get_past c.deref.result.now (c.from.result - 1) (ltb-false _ _ (sym c.in-None.ensures.lookup.0)) in
    let none : slice_get c.self.inside.kept.items (c.from.result - 1) ≡ None = subst (λ (kept : List KeptCentre). slice_get kept (c.from.result - 1) ≡ None) c.deref.ensures.value past in
    trail_none c.self.inside.kept.items (c.from.result - 1) c.args.centre place none ∙ ap (λ (door : KeptView). trail_at door.centres c.args.centre) c.self.view_is
