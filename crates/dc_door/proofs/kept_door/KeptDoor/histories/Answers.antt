use Rattle.std.proofs.Common.{List, subst}
use Rattle.std.specs.Prelude.{All}
use Rattle.std.proofs.lemmas.List.Elements.{All-map, All-weaker}
use Rattle.dc_talk.specs.Answers.{History}
use Rattle.dc_door.specs.Centres.{CentreTrail, KeptCentre, seen_of, IsKeptCentre}
use Rattle.dc_door.specs.KeptDoors.{KeptView}
use Rattle.dc_door.proofs.kept_door.KeptDoor.histories.Goals as goal

pub returns : goal.returns
returns c =
    let IsHistoryOf : CentreTrail → Type 0 = λ centre. History centre.settings centre.entries in
    let kept : List KeptCentre = c.self.inside.kept.items in
    subst (λ (door : KeptView). All IsHistoryOf door.centres) c.self.view_is
    (All-map IsHistoryOf seen_of kept (All-weaker IsKeptCentre (λ (one : KeptCentre). IsHistoryOf (seen_of one)) (λ one is. is.history) kept c.self.invariant.all))
