-- All actors of a phase, before it and behind its rounds.
use Rattle.std.specs.Prelude.{◌≡◌, All, min, map, length, List, [], ◌∷◌}
use Rattle.std.specs.List.{AllZip}
use Rattle.std.specs.Global.{Vec}
use Rattle.list_core.specs.Members.{In}
use Rattle.script_core.specs.Steps.{IsCount}
use Rattle.read_tap.specs.Shows.{ShowsView, FeederView}
use Rattle.phase_actors.specs.Taps.{AreReaders, HaveRead, AreFeeders}
use Rattle.phase_actors.specs.Actors.{IsCallerOf, HasOperated, IsSenderOf, HasSent, IsReceiverOf, HasReceived, HasReported, HasPruned, IsPlayerOf, HasTakenSteps}
use Rattle.phase_actors.specs.declared.scene.Scene.{Scene}
use Rattle.phase_actors.specs.declared.clients.Player.{Player}
use Rattle.phase_play.specs.declared.blocks.Clients.{Clients}
use Rattle.phase_play.specs.declared.crews.Crew.{Crew}
use Rattle.phase_play.specs.declared.threads.Cast.{Cast}

-- ---- the workers of a centre

-- the workers of a centre of the scene
pub record IsCrewOf (scene : Scene) (crew : Crew) : Type 0 where
  pub centre : IsCount scene.script.now.n crew.centre
  pub sender : IsSenderOf scene crew.centre crew.sender
  pub receiver : IsReceiverOf scene crew.centre crew.receiver
  pub reporter : IsCallerOf scene crew.reporter
  pub pruner : IsCallerOf scene crew.pruner

-- they made their rounds
pub record HasCrewPlayed (scene : Scene) (old new : Crew) : Type 0 where
  pub centre : new.centre ≡ old.centre
  pub sender : HasSent scene old.centre old.sender new.sender
  pub receiver : HasReceived scene old.centre old.receiver new.receiver
  pub reporter : HasReported scene old.centre old.reporter new.reporter
  pub pruner : HasPruned scene old.centre old.pruner new.pruner

-- ---- the clients

-- readers of a scene's taps
abbrev pub AreRow : Scene → Vec ShowsView → Type 0
AreRow scene row = AreReaders scene.taps.now row.items

-- the same readers, which may have seen more
abbrev pub HasReadRow : Vec ShowsView → Vec ShowsView → Type 0
HasReadRow old new = HaveRead old.items new.items

-- the clients of a scene before the phase, with the readers of their threads
pub record IsClients (scene : Scene) (clients : Clients) : Type 0 where
  pub players : All (IsPlayerOf scene) clients.players.items
  pub rows_are : All (AreRow scene) clients.rows.items
  pub number : length clients.rows.items ≡ min (length clients.players.items) scene.script.now.threads

-- a client took its steps, and saw shows that the readers of one of the threads have seen, or had no readers
pub record HasTakenStepsBy (scene : Scene) (rows : List (Vec ShowsView)) (old new : Player) : Type 0 where
  pub row : List ShowsView
  pub there : In row ([] ∷ map (λ (row : Vec ShowsView). row.items) rows)
  pub taken : HasTakenSteps scene row old new

-- they took their steps
pub record HaveClientsPlayed (scene : Scene) (old new : Clients) : Type 0 where
  pub players : AllZip (HasTakenStepsBy scene new.rows.items) old.players.items new.players.items
  pub rows_read : AllZip HasReadRow old.rows.items new.rows.items

-- ---- all

-- the actors of a scene before the phase
pub record IsCast (scene : Scene) (cast : Cast) : Type 0 where
  pub operator : IsCallerOf scene cast.operator
  pub clients : All (IsPlayerOf scene) cast.clients.items
  pub crews : All (IsCrewOf scene) cast.crews.items

-- its taps: a feeder of each, and for each thread of the clients a reader of each
pub record AreOpen (scene : Scene) (cast : Cast) (feeders : List FeederView) (rows : List (Vec ShowsView)) : Type 0 where
  pub feeders_are : AreFeeders scene.script.now.n scene.taps.now feeders
  pub rows_are : All (AreRow scene) rows
  pub number : length rows ≡ min (length cast.clients.items) scene.script.now.threads

-- they did their parts
pub record HaveAllPlayed (scene : Scene) (old : Cast) (feeders : List FeederView) (rows : List (Vec ShowsView)) (new : Cast) (later : List FeederView) (seen : List (Vec ShowsView)) : Type 0 where
  pub operator : HasOperated scene old.operator feeders new.operator later
  pub clients : AllZip (HasTakenStepsBy scene seen) old.clients.items new.clients.items
  pub rows_read : AllZip HasReadRow rows seen
  pub crews : AllZip (HasCrewPlayed scene) old.crews.items new.crews.items
