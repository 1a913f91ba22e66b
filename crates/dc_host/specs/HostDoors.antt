-- A door over hosts: each centre is under a lock that threads share.
use Rattle.std.specs.Prelude.{◌≡◌, ◌∷◌, ℕ, zero, suc, ◌+◌, ◌-◌, ◌^◌, min, false, List, [], ◌++◌, map, length, Option, Some, None, slice_get, slice_set, All}
use Rattle.std.specs.List.{AllZip}
use Rattle.host_lock.specs.Hosts.{HostView, PassView, IsOf, HasCalled, seen}
use Rattle.dc_talk.specs.declared.ask.Ask.{Ask}
use Rattle.dc_talk.specs.declared.say.Say.{Say}
use Rattle.dc_talk.specs.declared.settings.Settings.{Settings}
use Rattle.dc_talk.specs.Entries.{Entry}
use Rattle.dc_talk.specs.Answers.{IsAnswer}
use Rattle.dc_talk.specs.Doors.{DoorView}
use Rattle.dc_host.specs.declared.host_door.HostPlace.{HostPlace}

-- the host of a centre
abbrev pub CentreHost : Type 0
CentreHost = HostView Ask Say Settings

-- a pass of such a host
abbrev pub CentrePass : Type 0
CentrePass = PassView Ask Say Settings

-- the actor, its pass of each centre's host, in order, and how many calls were made with these before there was the door
pub record HostDoorView : Type 0 where
  pub actor : ℕ
  pub passes : List CentrePass
  pub began : ℕ

-- the pass of centre i, counted from 1
abbrev pub pass_at : List CentrePass → ℕ → Option CentrePass
pass_at passes zero = None
pass_at passes (suc i) = slice_get passes i

-- the calls that were made with a pass
abbrev pub made_with : Option CentrePass → List Entry
made_with None = []
made_with (Some pass) = pass.mine

-- what a pass has seen of its host's history
abbrev pub seen_with : Option CentrePass → List Entry
seen_with None = []
seen_with (Some pass) = seen pass

-- what is seen of an actor with these passes as a door: it is not alone, and made and knows what they did and saw
abbrev pub shown_by : ℕ → List CentrePass → DoorView
shown_by actor passes = record {
  actor = actor;
  centres = length passes;
  alone = false;
  made = λ i. made_with (pass_at passes i);
  seen = λ i. seen_with (pass_at passes i);
}

-- what is seen of it as a door
abbrev pub shown_over : HostDoorView → DoorView
shown_over door = shown_by door.actor door.passes

-- a pass without what was done with it
abbrev pub bare : CentrePass → CentrePass
bare pass = record pass { since = []; mine = []; found = [] }

-- what no ask changes
abbrev pub place_over : HostDoorView → HostPlace
place_over door = record { actor = door.actor; passes = map bare door.passes; began = door.began }

-- one pass for each host, in order, with the actor's number
pub record ArePasses (hosts : List CentreHost) (actor : ℕ) (passes : List CentrePass) : Type 0 where
  pub each : AllZip IsOf hosts passes
  pub numbered : All (λ pass. pass.number ≡ actor) passes

-- how many calls were made with passes
abbrev pub calls_with : List CentrePass → ℕ
calls_with [] = 0
calls_with (pass ∷ passes) = length pass.mine + calls_with passes

-- a number as it is counted: it stands still at 2^64 - 1
abbrev pub counted : ℕ → ℕ
counted number = min number (2 ^ 64 - 1)

-- a new door of an actor with these passes
abbrev pub new_door : ℕ → List CentrePass → HostDoorView
new_door actor passes = record { actor = actor; passes = passes; began = counted (calls_with passes) }

-- of so many calls of an actor the gate was told to their end, of which a door found the first ones made: the door made
-- none, or has the receipt of the last one
abbrev pub IsTold : {T : Type 0} → (T → ℕ × ℕ) → ℕ → ℕ → ℕ → Option T → Type 0
IsTold call_of actor began calls None = calls ≡ began
IsTold call_of actor began calls (Some receipt) = call_of receipt ≡ (actor, calls)

-- the pass at a place, counted from 0, made a call, and the others stay
pub record HasCalledAt (old new : List CentrePass) (place : ℕ) (ask : Ask) (say : Say) : Type 0 where
  pub pass : CentrePass
  pub now : CentrePass
  pub there : slice_get old place ≡ Some pass
  pub called : HasCalled IsAnswer pass ask say now
  pub after : new ≡ slice_set old place now

-- it made none: at most its tries for the turn found others
pub record HasNotCalledAt (old new : List CentrePass) (place : ℕ) : Type 0 where
  pub pass : CentrePass
  pub found : List ℕ
  pub there : slice_get old place ≡ Some pass
  pub after : new ≡ slice_set old place (record pass { found = pass.found ++ found })
