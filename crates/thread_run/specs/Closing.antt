-- The actors of a phase, taken apart around the closing rounds.
use Rattle.std.specs.Prelude.{◌≡◌, map, List, [], ◌∷◌, ◌++◌}
use Rattle.std.specs.List.{AllZip}
use Rattle.dc_talk.specs.declared.sent.Sent.{Sent}
use Rattle.mail_link.specs.Ends.{GiverView}
use Rattle.script_core.specs.Steps.{IsCount}
use Rattle.phase_actors.specs.declared.callers.Caller.{Caller}
use Rattle.phase_actors.specs.declared.receivers.ReceiverEnd.{ReceiverEnd}
use Rattle.phase_play.specs.declared.crews.Crew.{Crew}
use Rattle.phase_actors.specs.declared.clients.Player.{Player}
use Rattle.phase_actors.specs.declared.scene.Scene.{Scene}
use Rattle.phase_actors.specs.Actors.{IsReceiverOf, HasClosed}
use Rattle.thread_run.specs.declared.parts.Parts.{Parts}
use Rattle.thread_run.specs.declared.closing.Half.{Half}
use Rattle.thread_run.specs.declared.closing.Halves.{Halves}

-- a crew as a half and the ends of its sender
abbrev pub half_of : Crew → Half
half_of crew = record { centre = crew.centre; sender = crew.sender.caller; receiver = crew.receiver; reporter = crew.reporter; pruner = crew.pruner }

-- the ends of the senders, and the rest of each crew
pub record AreHalves (crews : List Crew) (h : Halves) : Type 0 where
  pub halves : h.halves.items ≡ map half_of crews
  pub givers : h.givers.items ≡ map (λ (crew : Crew). crew.sender.givers) crews

-- the receiver of a half is one of the scene
pub record IsHalfOf (scene : Scene) (half : Half) : Type 0 where
  pub centre : IsCount scene.script.now.n half.centre
  pub receiver : IsReceiverOf scene half.centre half.receiver

-- the callers of a half, with the receiver as it is then
abbrev pub half_callers : Half → ReceiverEnd → List Caller
half_callers half receiver = half.sender ∷ receiver.caller ∷ half.reporter ∷ half.pruner ∷ []

-- the parts with these callers and these of receivers behind those that were there
pub record HasMore (old : Parts) (callers : List Caller) (receivers : List ReceiverEnd) (new : Parts) : Type 0 where
  pub rows : new.rows.items ≡ old.rows.items ++ map (λ (c : Caller). c.row) callers
  pub logs : new.logs.items ≡ old.logs.items ++ map (λ (c : Caller). c.log) callers
  pub stubs : new.stubs ≡ old.stubs
  pub givers : new.givers ≡ old.givers
  pub takers : new.takers.items ≡ old.takers.items ++ map (λ (r : ReceiverEnd). r.takers) receivers
  pub inlets : new.inlets.items ≡ old.inlets.items ++ map (λ (r : ReceiverEnd). r.inlets) receivers

-- the receiver of a half made its closing round, and the parts of the half are there
pub record HasClosedHalf (scene : Scene) (givers : List (List (GiverView Sent))) (old : Parts) (half : Half) (new : Parts) : Type 0 where
  pub receiver : ReceiverEnd
  pub closed : HasClosed scene half.centre givers half.receiver receiver
  pub more : HasMore old (half_callers half receiver) (receiver ∷ []) new

-- the callers of halves with these receivers
abbrev pub all_callers : List Half → List ReceiverEnd → List Caller
all_callers [] receivers = []
all_callers (half ∷ halves) [] = []
all_callers (half ∷ halves) (receiver ∷ receivers) = half_callers half receiver ++ all_callers halves receivers

-- so of all of them
pub record HaveClosed (scene : Scene) (givers : List (List (GiverView Sent))) (old : Parts) (halves : List Half) (new : Parts) : Type 0 where
  pub receivers : List ReceiverEnd
  pub closed : AllZip (λ (half : Half) (receiver : ReceiverEnd). HasClosed scene half.centre givers half.receiver receiver) halves receivers
  pub more : HasMore old (all_callers halves receivers) receivers new

-- the parts of clients more
pub record HasClients (old : Parts) (players : List Player) (new : Parts) : Type 0 where
  pub rows : new.rows.items ≡ old.rows.items ++ map (λ (p : Player). p.caller.row) players
  pub logs : new.logs.items ≡ old.logs.items ++ map (λ (p : Player). p.caller.log) players
  pub stubs : new.stubs.items ≡ old.stubs.items ++ map (λ (p : Player). p.stub) players
  pub givers : new.givers ≡ old.givers
  pub takers : new.takers ≡ old.takers
  pub inlets : new.inlets ≡ old.inlets
