use Rattle.std.proofs.Common.{List, sym, subst}
use Rattle.std.specs.List.{AllZip}
use Rattle.phase_play.specs.declared.crews.Crew.{Crew}
use Rattle.phase_play.specs.Crews.{WillPlay}
use Rattle.phase_play.specs.Casts.{HasCrewPlayed}
use Rattle.phase_play.proofs.Ending.{none_came, one_more_came}
use Rattle.phase_play.proofs.crews.end_crews.Goals as goal

pub begun-init : goal.begun-init
begun-init g c = λ scene crews zip. subst (λ (played : List Crew). AllZip (HasCrewPlayed scene) crews played) (sym c.new-played.ensures.items) (none_came (WillPlay scene) (HasCrewPlayed scene) crews zip)

pub begun-preserved : goal.begun-preserved
begun-preserved g c = λ scene crews zip.
    subst (λ (later : List Crew). AllZip (HasCrewPlayed scene) crews later) (sym c.in_ok-push.ensures.items)
    (one_more_came (WillPlay scene) (HasCrewPlayed scene) c.begun.yielded c.in-Some.crew c.begun.played.items c.in_ok-ended.ended (λ crews zip. c.begun.invariant scene crews zip) (λ crew will. c.in_ok-ended.ensures scene crew will) crews zip)
