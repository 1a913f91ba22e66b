-- The parts of a step: its calls, and its asks with their second copies.
use Rattle.std.specs.Prelude.{◌≡◌, ◌≢◌, ◌<◌, ◌-◌, ◌^◌, ℕ, Bool, true, false, cond, length, List, [], ◌∷◌, Option, Some, None}
use Rattle.std.specs.List.{list_any}
use Rattle.dc_talk.specs.declared.ask.Ask.{Ask}
use Rattle.dc_talk.specs.declared.ask.Ask.TheVariants.{Commit}
use Rattle.dc_talk.specs.declared.say.Say.{Say}
use Rattle.dc_talk.specs.declared.calls.Connection.{Connection}
use Rattle.dc_talk.specs.declared.calls.Refusal.TheVariants.{NeedsFetch}
use Rattle.dc_talk.specs.declared.calls.Outcome.{Outcome}
use Rattle.dc_talk.specs.declared.calls.Outcome.TheVariants.{Refused}
use Rattle.dc_talk.specs.declared.line.Line.{Line}
use Rattle.dc_talk.specs.declared.log.Fate.{Fate}
use Rattle.dc_talk.specs.declared.log.Fate.TheVariants.{AskLost, Unheard}
use Rattle.dc_talk.specs.declared.log.Deed.{Deed}
use Rattle.dc_talk.specs.declared.log.Deed.TheVariants.{Asked}
use Rattle.dc_talk.specs.Clients.{Client}
use Rattle.dc_talk.specs.Calls.{outcome_of}
use Rattle.dc_talk.specs.Doors.{DoorView}
use Rattle.script_core.specs.declared.object_call.ObjectCall.{ObjectCall}
use Rattle.script_core.specs.declared.steps.AskFault.{AskFault}
use Rattle.script_core.specs.declared.steps.AskFault.TheVariants.{Twice}
use Rattle.script_core.specs.Deeds.{Asks, FlushEnds, PushesOn, calls_on, fate_of, is_ask, told, took}
use Rattle.client_stub.specs.declared.purpose.Errand.{Errand}
use Rattle.client_stub.specs.declared.purpose.Next.{Next}
use Rattle.dc_talk.specs.Acting.{Acting, Leaves}
use Rattle.client_stub.specs.Playing.{Playing, Grows, progress}
use Rattle.client_stub.specs.Purposes.{line_after, next_after}

-- the fault that is armed after deeds: an ask uses it
abbrev pub used_by : Option AskFault → List Deed → Option AskFault
used_by armed deeds = cond (list_any is_ask deeds) None armed

-- a client that grows by deeds that are so, of which each ask is under the fault that is armed
pub record GrowsBy (Are : List Deed → Type 0) (old new : Playing) : Type 0 where
  pub deeds : List Deed
  pub such : Are deeds
  pub grows : Grows old new deeds
  pub armed : new.armed ≡ used_by old.armed deeds

-- ---- calls

-- whether a call has to have its object fetched
abbrev pub needs_fetch : Outcome → Bool
needs_fetch (Refused (NeedsFetch o)) = true
needs_fetch _ = false

-- a call on an object with its line, and whether it has to have the object fetched
pub record MakesCall (c : ObjectCall) (old new : Playing) (needs : Bool) : Type 0 where
  pub grows : Grows old new (calls_on old.client c)
  pub armed : new.armed ≡ old.armed
  pub needed : needs ≡ needs_fetch (outcome_of old.client c.call)

-- ---- asks

-- the number of the transaction that an ask commits
abbrev pub number_in : Ask → ℕ
number_in (Commit tx) = tx.dot.number
number_in _ = 0

-- the second copy of an ask, where the fault that is armed makes one
abbrev pub second_of : Option AskFault → Ask → Option Ask
second_of (Some Twice) ask = Some ask
second_of _ ask = None

-- the deeds of a second copy with the answer to it, where there is one
abbrev pub copied : ℕ → Option Ask → Say → List Deed
copied i None say = []
copied i (Some ask) say = Asked i ask (Unheard say) ∷ []

-- the line of an errand, where it has one, by what became of its ask
abbrev pub line_of : Client → Errand → Fate → Option Line
line_of s errand fate = line_after errand.purpose s.client (took s errand.centre errand.ask fate) fate

-- what the step of an errand does then, by what became of its ask
abbrev pub next_of : Client → Errand → Fate → Next
next_of s errand fate = next_after errand.purpose (took s errand.centre errand.ask fate) fate

-- an errand whose ask was noted, with the line that is to be told and what the step does then
pub record HasAskedFor (errand : Errand) (old new : Playing) (it : Option Line × Next) : Type 0 where
  pub say : Say
  pub fate : Fate
  pub became : fate ≡ fate_of old.armed say
  pub grows : Grows old new (Asked errand.centre errand.ask fate ∷ [])
  pub armed : new.armed ≡ None
  pub line : it.0 ≡ line_of old.client errand fate
  pub next : it.1 ≡ next_of old.client errand fate
  pub short : fate ≢ AskLost → length (new.door.made errand.centre) < 2 ^ 62

-- a second copy of an ask of centre i, where there is one
pub record AsksAgain (i : ℕ) (copy : Option Ask) (old new : Acting) : Type 0 where
  pub say : Say
  pub leaves : Leaves old new (copied i copy say)
  pub short : length (old.door.made i) < 2 ^ 62 → length (new.door.made i) < 2 ^ 62

-- an errand that was made, with what the step does then
pub record Runs (errand : Errand) (old new : Playing) (next : Next) : Type 0 where
  pub deeds : List Deed
  pub asks : Asks old.armed errand.centre errand.ask (λ fate. told (line_of old.client errand fate)) deeds
  pub grows : Grows old new deeds
  pub armed : new.armed ≡ None
  pub goes : next ≡ next_of old.client errand (fate_of old.armed asks.say)
  pub short : fate_of old.armed asks.say ≢ AskLost → length (new.door.made errand.centre) < 2 ^ 62

-- ---- flushes

-- how many entries more the door may make at the centre that the client is connected to
abbrev pub room_over : DoorView → Option Connection → ℕ
room_over door None = 0
room_over door (Some link) = 2 ^ 62 - length (door.made link.centre)

-- so many for a client before a door
abbrev pub room : Playing → ℕ
room p = room_over p.door p.client.link

-- a push after which a flush goes on
pub record HasPushedOn (old new : Playing) : Type 0 where
  pub deeds : List Deed
  pub pushes : PushesOn (progress old) deeds
  pub grows : Grows old new deeds
  pub armed : new.armed ≡ None
  pub fewer : room new < room old

-- a push of a flush, after which it goes on or has ended
abbrev pub FlushesOn : Playing → Playing → Bool → Type 0
FlushesOn old new true = HasPushedOn old new
FlushesOn old new false = GrowsBy (FlushEnds (progress old)) old new
