use Rattle.std.proofs.Common.{List, [], ◌∷◌, ◌++◌, sym, subst}
use Rattle.std.specs.List.{AllZip}
use Rattle.phase_play.specs.declared.crews.BegunCrew.{BegunCrew}
use Rattle.phase_play.specs.Crews.{WillPlay}
use Rattle.phase_play.proofs.Ending.{zip_push}
use Rattle.phase_play.proofs.crews.begin_crews.Goals as goal

pub crews-preserved : goal.crews-preserved
crews-preserved g c =
    let will = WillPlay c.args.scene in
    subst (λ (later : List BegunCrew). AllZip will (c.crews.yielded ++ c.in-Some.crew ∷ []) later) (sym c.in_ok-push.ensures.items) (zip_push will c.crews.yielded c.crews.begun.items c.in-Some.crew c.begin_crew.result c.crews.invariant c.begin_crew.ensures)
