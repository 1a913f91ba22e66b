use Rattle.std.proofs.Common.{List, [], ◌∷◌, ◌++◌, sym, subst}
use Rattle.std.specs.List.{AllZip}
use Rattle.std.proofs.lemmas.List.Elements.{AllZip-push}
use Rattle.phase_play.specs.declared.crews.Crew.{Crew}
use Rattle.phase_play.specs.Casts.{HasCrewPlayed}
use Rattle.phase_play.proofs.idle.idle_crews.Goals as goal

pub crews-preserved : goal.crews-preserved
crews-preserved g c =
    let played = HasCrewPlayed c.args.scene in
    subst (λ (later : List Crew). AllZip played (c.crews.yielded ++ c.in-Some.crew ∷ []) later) (sym c.in_ok-push.ensures.items) (AllZip-push played c.crews.yielded c.crews.played.items c.in-Some.crew c.in_ok-idle_crew.field-0 c.crews.invariant c.in_ok-idle_crew.ensures)
