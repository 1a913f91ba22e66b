use Rattle.std.proofs.Common.{◌≡◌, List, suc, ◌-◌, length, take, refl, ap, arith}
use Rattle.dc_talk.specs.declared.settings.Settings.{Settings}
use Rattle.dc_door.specs.declared.kept_door.KeptPlace.{KeptPlace}
use Rattle.dc_door.specs.Centres.{KeptCentre, all_seen}
use Rattle.dc_door.specs.KeptDoors.{KeptView}
use Rattle.dc_door.proofs.Trails.{place_stays, says_its_row, has_asked}
use Rattle.dc_door.proofs.kept_door.KeptDoorDoor.ask.Goals as goal

pub returns-clause-place : goal.returns-clause-place
returns-clause-place c =
    let with : List Settings → KeptPlace = λ settings. record { actor = c.self.inside.actor; settings = settings } in
    rw (← c.self.view_is) (ap with (place_stays _ _ _ _ c.args.ask.now c.answer_at.result c.answer_at.ensures.answered c.answer_at.ensures.none))

pub returns-clause-row : goal.returns-clause-row
returns-clause-row c = says_its_row _ _ _ _ c.args.ask.now c.answer_at.result c.answer_at.ensures.answered

pub returns-clause-asked : goal.returns-clause-asked
returns-clause-asked c =
    let shows : List KeptCentre → KeptView = λ kept. record { actor = c.self.inside.actor; centres = all_seen kept; since = take (length kept) c.self.inside.since } in
    let place : c.args.centre ≡ suc (c.from.result - 1) = omega (arith, c.requires.0) in
    rw (← c.self.view_is) (has_asked (shows c.self.inside.kept.items) (shows c.answer_at.new.kept.items) (c.from.result - 1) c.args.centre c.args.ask.now c.answer_at.result place refl (ap (λ number. take number c.self.inside.since) c.answer_at.ensures.number) (c.self.invariant.before c.args.centre) c.answer_at.ensures.answered)
