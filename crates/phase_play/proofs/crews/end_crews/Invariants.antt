use Rattle.std.proofs.Common.{List}
use Rattle.std.specs.List.{AllZip}
use Rattle.phase_actors.specs.declared.scene.Scene.{Scene}
use Rattle.phase_play.specs.declared.crews.Crew.{Crew}
use Rattle.phase_play.specs.Crews.{WillPlay}
use Rattle.phase_play.specs.Casts.{HasCrewPlayed}
use Rattle.phase_play.proofs.crews.end_crews.Given as goal

abbrev pub invariant-begun : goal.invariant-begun
invariant-begun g l = (scene : Scene) (crews : List Crew) → AllZip (WillPlay scene) crews l.yielded → AllZip (HasCrewPlayed scene) crews l.played.items
