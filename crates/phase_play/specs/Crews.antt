-- The workers of a centre that have begun.
use Rattle.std.specs.Prelude.{◌≡◌}
use Rattle.phase_actors.specs.declared.scene.Scene.{Scene}
use Rattle.phase_play.specs.declared.crews.Crew.{Crew}
use Rattle.phase_play.specs.declared.crews.BegunCrew.{BegunCrew}
use Rattle.phase_play.specs.Begun.{WillSend, WillReceive, WillReport, WillPrune}

-- each is in a thread that promises its rounds, or has made them
pub record WillPlay (scene : Scene) (crew : Crew) (begun : BegunCrew) : Type 0 where
  pub centre : begun.centre ≡ crew.centre
  pub sender : WillSend scene crew.centre crew.sender begun.sender
  pub receiver : WillReceive scene crew.centre crew.receiver begun.receiver
  pub reporter : WillReport scene crew.centre crew.reporter begun.reporter
  pub pruner : WillPrune scene crew.centre crew.pruner begun.pruner
