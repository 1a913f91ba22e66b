-- The actors of a phase, each before it and behind its part.
use Rattle.std.specs.Prelude.{◌≡◌, ◌≤◌, ◌<◌, ℕ, ◌+◌, replicate, length, List, Some, slice_get, All}
use Rattle.std.specs.List.{AllZip}
use Rattle.dc_talk.specs.declared.sent.Sent.{Sent}
use Rattle.mail_link.specs.Ends.{GiverView}
use Rattle.dc_links.specs.Links.{AreGivers, AreTakers}
use Rattle.run_book.specs.Moves.{operator_steps}
use Rattle.run_sections.specs.Orders.{takes_some}
use Rattle.run_table.specs.Dealing.{line_of}
use Rattle.read_tap.specs.Shows.{ShowsView, FeederView}
use Rattle.phase_actors.specs.Taps.{AreReaders, HaveRead, shows_kept, HaveFed}
use Rattle.phase_actors.specs.Playing.{seen_by, IsCaller, IsSameCaller}
use Rattle.phase_actors.specs.Workers.{PlaysOperator, PlaysSender, PlaysReceiver, PlaysReporter, PlaysPruner, Closes, sending, receiving}
use Rattle.phase_actors.specs.Clients.{SeatView, IsSeat, HasGoneOn, HasStood, IsPlayer, HasClientPlayed}
use Rattle.phase_actors.specs.declared.scene.Scene.{Scene}
use Rattle.phase_actors.specs.declared.callers.Caller.{Caller}
use Rattle.phase_actors.specs.declared.senders.SenderEnd.{SenderEnd}
use Rattle.phase_actors.specs.declared.receivers.ReceiverEnd.{ReceiverEnd}
use Rattle.phase_actors.specs.declared.clients.Player.{Player}
use Rattle.phase_actors.specs.declared.clients.Block.{Block}

-- a caller of the scene's hosts
abbrev pub IsCallerOf : Scene → Caller → Type 0
IsCallerOf scene caller = IsCaller scene.hosts.now.hosts caller

-- ---- the operator

-- it did its part, with feeders of the taps
pub record HasOperated (scene : Scene) (old : Caller) (feeders : List FeederView) (new : Caller) (later : List FeederView) : Type 0 where
  pub same : IsSameCaller old new
  pub plays : PlaysOperator scene.taps.now scene.script.now.n scene.number (shows_kept scene.taps.now feeders) (operator_steps scene.section.now) (seen_by old) (seen_by new) (shows_kept scene.taps.now later)
  pub fed : HaveFed feeders later

-- ---- the workers of a centre

-- the sender of a centre, with the ends of its links
pub record IsSenderOf (scene : Scene) (centre : ℕ) (end : SenderEnd) : Type 0 where
  pub caller : IsCallerOf scene end.caller
  pub givers : AreGivers scene.links.now centre end.givers.items

-- it made its rounds
pub record HasSent (scene : Scene) (centre : ℕ) (old new : SenderEnd) : Type 0 where
  pub same : IsSameCaller old.caller new.caller
  pub is : IsSenderOf scene centre new
  pub plays : PlaysSender scene.script.now.n centre scene.number scene.script.now.rounds (sending old) (sending new)

-- the receiver of a centre, with the ends of its links and the fault of each
pub record IsReceiverOf (scene : Scene) (centre : ℕ) (end : ReceiverEnd) : Type 0 where
  pub caller : IsCallerOf scene end.caller
  pub takers : AreTakers scene.links.now centre end.takers.items
  pub inlets : length end.inlets.items ≡ scene.script.now.n

-- it made its rounds
pub record HasReceived (scene : Scene) (centre : ℕ) (old new : ReceiverEnd) : Type 0 where
  pub same : IsSameCaller old.caller new.caller
  pub is : IsReceiverOf scene centre new
  pub plays : PlaysReceiver scene.script.now.n centre scene.number (replicate scene.script.now.rounds takes_some) (receiving old) (receiving new)

-- it made its closing round, given the ends of all senders
pub record HasClosed (scene : Scene) (centre : ℕ) (givers : List (List (GiverView Sent))) (old new : ReceiverEnd) : Type 0 where
  pub same : IsSameCaller old.caller new.caller
  pub is : IsReceiverOf scene centre new
  pub closes : Closes scene.script.now.n centre scene.number (scene.script.now.rounds + 1) givers (receiving old) (receiving new)

-- the reporter of a centre made its rounds
pub record HasReported (scene : Scene) (centre : ℕ) (old new : Caller) : Type 0 where
  pub same : IsSameCaller old new
  pub plays : PlaysReporter scene.script.now.n centre scene.number scene.script.now.rounds (seen_by old) (seen_by new)

-- and the pruner
pub record HasPruned (scene : Scene) (centre : ℕ) (old new : Caller) : Type 0 where
  pub same : IsSameCaller old new
  pub plays : PlaysPruner centre scene.number scene.script.now.rounds (seen_by old) (seen_by new)

-- ---- the clients

-- a client of the scene
abbrev pub IsPlayerOf : Scene → Player → Type 0
IsPlayerOf scene player = IsPlayer scene.hosts.now.hosts scene.script.now.clients player

-- a client of the scene before its door
abbrev pub IsSeatOf : Scene → SeatView → Type 0
IsSeatOf scene seat = IsSeat scene.script.now.n scene.script.now.clients seat

-- there is a client at a place to whom a step is left
pub record IsLeftAt (scene : Scene) (seats : List SeatView) (place : ℕ) : Type 0 where
  pub seat : SeatView
  pub there : slice_get seats place ≡ Some seat
  pub left : seat.taken < length (line_of scene.dealt.now seat.client)

-- it took some steps more, while its readers came to see more, and is one still
pub record HasSeatGone (scene : Scene) (readers later : List ShowsView) (old new : SeatView) : Type 0 where
  pub is : IsSeatOf scene new
  pub gone : HasGoneOn scene.taps.now readers later scene.section.now scene.number old new

-- it took one step more
pub record HasTurnedSeat (scene : Scene) (readers later : List ShowsView) (old new : SeatView) : Type 0 where
  pub went : HasSeatGone scene readers later old new
  pub taken : new.taken ≡ old.taken + 1

-- it took all steps that were left to it, and got up
pub record HasEnded (scene : Scene) (readers later : List ShowsView) (old : SeatView) (player : Player) : Type 0 where
  pub seat : SeatView
  pub went : HasSeatGone scene readers later old seat
  pub all : length (line_of scene.dealt.now seat.client) ≤ seat.taken
  pub stood : HasStood seat player

-- it took its steps, and saw shows that these readers have seen
abbrev pub HasTakenSteps : Scene → List ShowsView → Player → Player → Type 0
HasTakenSteps scene readers old new = HasClientPlayed scene.taps.now readers scene.section.now scene.number old new

-- some clients of the scene, with readers of its taps
pub record IsBlockOf (scene : Scene) (block : Block) : Type 0 where
  pub players : All (IsPlayerOf scene) block.players.items
  pub readers : AreReaders scene.taps.now block.readers.items

-- they took their steps
pub record HasBlockPlayed (scene : Scene) (old new : Block) : Type 0 where
  pub players : AllZip (HasTakenSteps scene new.readers.items) old.players.items new.players.items
  pub readers : HaveRead old.readers.items new.readers.items
