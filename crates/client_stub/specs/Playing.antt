-- A client before a door to the centres, and how its log and what the door shows grow by its deeds.
use Rattle.std.specs.Prelude.{◌≡◌, ℕ, IfSome, List, [], ◌∷◌, Option, All}
use Rattle.dc_talk.specs.declared.log.Deed.{Deed}
use Rattle.dc_talk.specs.Logs.{Logged, noted}
use Rattle.dc_talk.specs.Acting.{Acting, noted_all, IsAskBehind, Leaves}
use Rattle.dc_talk.specs.Clients.{Client}
use Rattle.dc_talk.specs.Doors.{DoorView, IsBehind, HasDone}
use Rattle.dc_talk.specs.Rule.{after, Allows}
use Rattle.script_core.specs.declared.steps.AskFault.{AskFault}
use Rattle.script_core.specs.declared.steps.ClientStep.{ClientStep}
use Rattle.script_core.specs.declared.steps.OperatorStep.{OperatorStep}
use Rattle.script_core.specs.Deeds.{Progress, StepDeeds, after_all, armed_after}
use Rattle.script_core.specs.Orders.{OperatorDeeds}

-- a client, with the fault that is armed for its next ask
pub record StubView : Type 0 where
  pub client : Client
  pub armed : Option AskFault

-- a client before a door, with its log
pub record Playing : Type 0 where
  pub door : DoorView
  pub client : Client
  pub armed : Option AskFault
  pub log : Logged

-- the same of a client that is so
abbrev pub beside : StubView → DoorView → Logged → Playing
beside stub door log = record { door = door; client = stub.client; armed = stub.armed; log = log }

-- how far the client is
abbrev pub progress : Playing → Progress
progress p = record { client = p.client; armed = p.armed; notes = p.log.notes }

-- each deed is one that the session rule allows, in turn
abbrev pub AllowsAll : Client → Logged → List Deed → Type 0
AllowsAll s log [] = Unit {0}
AllowsAll s log (deed ∷ deeds) = Allows s log.notes deed × AllowsAll (after s deed) (noted log deed) deeds

-- the client is connected to no centre, or to one behind the door
abbrev pub IsLinkBehind : DoorView → Client → Type 0
IsLinkBehind door s = IfSome s.link (λ link. IsBehind door link.centre)

-- the client, its log and what the door shows grow by these deeds
pub record Grows (old new : Playing) (deeds : List Deed) : Type 0 where
  pub log : new.log ≡ noted_all old.log deeds
  pub client : new.client ≡ after_all old.client deeds
  pub door : HasDone old.door new.door deeds
  pub allowed : AllowsAll old.client old.log deeds
  pub behind : All (IsAskBehind old.door) deeds

-- a step of the client: what it leaves is what is defined for the step
pub record Takes (step : ClientStep) (old new : Playing) : Type 0 where
  pub deeds : List Deed
  pub such : StepDeeds (progress old) step deeds
  pub grows : Grows old new deeds
  pub armed : new.armed ≡ armed_after old.armed step deeds

-- a step of the operator of n centres: what it leaves is what is defined for the step
pub record Operates (n : ℕ) (step : OperatorStep) (old new : Acting) : Type 0 where
  pub deeds : List Deed
  pub such : OperatorDeeds n step deeds
  pub leaves : Leaves old new deeds
