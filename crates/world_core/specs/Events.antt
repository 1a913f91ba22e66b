-- What may happen in a world, and what each event leaves.
use Rattle.std.specs.Prelude.{◌≡◌, ◌≢◌, ◌⊎◌, ℕ, ◌+◌, ◌-◌, ◌==◌, ◌&&◌, nat_le, cond, map, List, [], ◌∷◌, ◌++◌, Option, Some, None, slice_get, slice_set}
use Rattle.std.specs.Option.{option_map, option_and_then}
use Rattle.list_core.specs.Choices.{when}
use Rattle.tx_core.specs.declared.tx.Tx.{Tx}
use Rattle.dc_talk.specs.declared.sent.Sent.{Sent}
use Rattle.dc_talk.specs.declared.ask.Ask.TheVariants.{Commit, Deliver}
use Rattle.dc_talk.specs.declared.ask.Ask.{Ask}
use Rattle.dc_talk.specs.declared.say.Say.{Say}
use Rattle.dc_talk.specs.declared.say.Say.TheVariants.{Records}
use Rattle.dc_talk.specs.declared.log.Fate.TheVariants.{Unheard}
use Rattle.dc_talk.specs.declared.log.Deed.{Deed}
use Rattle.dc_talk.specs.declared.log.Deed.TheVariants.{Asked}
use Rattle.dc_talk.specs.declared.log.Note.{Note}
use Rattle.dc_talk.specs.Entries.{Entry}
use Rattle.dc_talk.specs.Logs.{Logged, marked}
use Rattle.dc_talk.specs.Doors.{DoorView}
use Rattle.dc_talk.specs.Acting.{acting}
use Rattle.dc_door.specs.Centres.{CentreTrail}
use Rattle.dc_door.specs.KeptDoors.{trail_at, shown_of, begun}
use Rattle.script_core.specs.declared.script.Script.{Script}
use Rattle.script_core.specs.declared.steps.Section.{Section}
use Rattle.script_core.specs.declared.steps.ClientStep.{ClientStep}
use Rattle.script_core.specs.declared.steps.OperatorStep.{OperatorStep}
use Rattle.script_core.specs.declared.rounds.Role.{Role}
use Rattle.script_core.specs.declared.rounds.Role.TheVariants.{Sender, Receiver, Reporter, Pruner}
use Rattle.script_core.specs.Deeds.{StepDeeds, after_all, armed_after}
use Rattle.script_core.specs.Orders.{OperatorDeeds}
use Rattle.script_core.specs.Taps.{FeedsSo, taps_then, LooksSo}
use Rattle.client_stub.specs.Playing.{StubView}
use Rattle.run_book.specs.Moves.{Does, operator_does, worker_does, closes, actor_of, client_steps, operator_steps}
use Rattle.run_book.specs.Played.{DoesSo}
use Rattle.run_book.specs.Setups.{setup_of}
use Rattle.run_book.specs.Happenings.{Happened, Happens, ClientDoes}
use Rattle.world_core.specs.declared.event.Event.{Event}
use Rattle.world_core.specs.declared.event.Event.TheVariants.{Client, Operator, Round, Again, Carry}
use Rattle.world_core.specs.declared.event.Played.{Played}
use Rattle.world_core.specs.declared.event.Played.TheVariants.{Done, NoSuch}
use Rattle.run_table.specs.declared.works.Work.{Work}
use Rattle.run_table.specs.Works.{work_of, HasWorkedPart}
use Rattle.run_table.specs.Taps.{taps_of}
use Rattle.run_table.specs.Tables.{Turn, log_at, log_in, AreHistories, HasPosts}
use Rattle.world_core.specs.Worlds.{WorldView, IsWorld, Acts, stub_at, progress_at, notes_in, stage_of}

-- ---- what is named

-- the element with a number, counted from 1
abbrev pub numbered : {X : Type 0} → List X → ℕ → Option X
numbered xs number = option_and_then (λ place. slice_get xs place) (when (nat_le 1 number) (number - 1))

-- the step of an actor in a section of a script, both counted from 1, where the actor's steps in a section are given
abbrev pub step_named : {X : Type 0} → (Section → List X) → Script → ℕ → ℕ → Option X
step_named steps script section step = option_and_then (λ found. numbered (steps found) step) (numbered script.sections section)

-- the transaction of a commit ask
abbrev pub commit_of : Deed → Option Tx
commit_of (Asked i (Commit tx) fate) = Some tx
commit_of _ = None

-- the transaction of the commit ask at a place of a client's log
abbrev pub commit_named : WorldView → ℕ → ℕ → Option Tx
commit_named w client place = option_and_then (λ note. commit_of note.deed) (slice_get (log_at w.logs (client + 1)).notes place)

-- the records of an answer to a send
abbrev pub records_of : Say → Option (List Sent)
records_of (Records list) = Some list
records_of _ = None

-- the record at an index of the answer at a place of a centre's trail
abbrev pub record_named : WorldView → ℕ → ℕ → ℕ → Option Sent
record_named w from place index = option_and_then (λ list. slice_get list index) (option_and_then (λ entry. records_of entry.say) (slice_get (trail_at w.centres from) place))

-- the delivery of a record with its hops
abbrev pub delivery_of : Sent → Ask
delivery_of sent = Deliver sent.item sent.hops

-- what is there, where the centre is one of the world's
abbrev pub if_centre : {X : Type 0} → WorldView → ℕ → Option X → Option X
if_centre w centre x = option_and_then (λ there. x) (when (nat_le 1 centre && nat_le centre w.script.n) centre)

-- the role of a number
abbrev pub role_of : ℕ → Option Role
role_of number = cond (number == 1) (Some Sender) (cond (number == 2) (Some Receiver) (cond (number == 3) (Some Reporter) (cond (number == 4) (Some Pruner) None)))

-- the round of a number, in a phase, of the worker of a centre with a role, given by its number; behind the last one the
-- receiver has its closing round
abbrev pub work_in : Script → ℕ → ℕ → ℕ → Option Does
work_in script round centre role = cond (nat_le 1 centre && nat_le centre script.n) (cond (nat_le 1 round && nat_le round script.rounds) (option_map (worker_does centre) (role_of role)) (cond (round == script.rounds + 1 && role == 2) (Some (closes centre)) None)) None

-- the same in a section, which has rounds where it is a phase
abbrev pub work_named : Script → ℕ → ℕ → ℕ → ℕ → Option Does
work_named script section round centre role = option_and_then (λ found. cond found.phase (work_in script round centre role) None) (numbered script.sections section)

-- whose turn it is when something is done in a section and step
abbrev pub turn_of : Script → ℕ → ℕ → Does → Turn
turn_of script section step does = record { actor = actor_of script.clients does; section = section; step = step }

-- ---- what an event leaves

-- a client takes a step in its turn: the client's notes are those of the step, which sees what the tap shows where it
-- looks through one, and the client is as far as they say; the other clients stay
pub record TakesStep (turn : Turn) (step : ClientStep) (old new : WorldView) : Type 0 where
  pub stub : StubView
  pub there : stub_at old.stubs (turn.actor - 1) ≡ Some stub
  pub deeds : List Deed
  pub such : StepDeeds (progress_at old (turn.actor - 1) stub) step deeds
  pub stubs : new.stubs ≡ slice_set old.stubs (turn.actor - 2) (record { client = after_all stub.client deeds; armed = armed_after stub.armed step deeds })
  pub looks : LooksSo (taps_of old.taps) stub.client.client step deeds
  pub posts : new.posts ≡ old.posts
  pub taps : new.taps ≡ old.taps
  pub allowed : ClientDoes stub.client (log_at old.logs turn.actor).notes (notes_in turn deeds)
  pub acts : Acts turn deeds old new

-- the operator takes a step in its turn: it feeds the objects of the tap where it feeds one, and the taps are as that
-- leaves them
pub record TakesOrder (turn : Turn) (step : OperatorStep) (old new : WorldView) : Type 0 where
  pub deeds : List Deed
  pub such : OperatorDeeds old.script.n step deeds
  pub stubs : new.stubs ≡ old.stubs
  pub posts : HasPosts old.script.n (operator_does step) deeds old.posts new.posts
  pub feeds : FeedsSo (taps_of old.taps) step deeds
  pub taps : (centre : ℕ) → taps_of new.taps centre ≡ taps_then step deeds (taps_of old.taps) centre
  pub acts : Acts turn deeds old new

-- a worker makes a round in its turn: its deeds are due at the stage to which the world came, and the links are as they
-- leave them
pub record TakesRound (turn : Turn) (does : Does) (old new : WorldView) : Type 0 where
  pub deeds : List Deed
  pub such : DoesSo old.script.n (stage_of old) turn.step does deeds
  pub stubs : new.stubs ≡ old.stubs
  pub posts : HasPosts old.script.n does deeds old.posts new.posts
  pub taps : new.taps ≡ old.taps
  pub acts : Acts turn deeds old new

-- an actor makes one ask whose answer no session hears, outside of the script
pub record AsksOnce (actor centre : ℕ) (ask : Ask) (old new : WorldView) : Type 0 where
  pub say : Say
  pub stubs : new.stubs ≡ old.stubs
  pub posts : new.posts ≡ old.posts
  pub taps : new.taps ≡ old.taps
  pub acts : Acts (record { actor = actor; section = 0; step = 0 }) (Asked centre ask (Unheard say) ∷ []) old new

-- what an event does, where what it names is there, and that nothing changes where it is not
abbrev pub Goes : {X : Type 0} → Option X → (X → WorldView → WorldView → Type 0) → WorldView → WorldView → Played → Type 0
Goes found Does old new Done = (x : _) × (found ≡ Some x) × Does x old new
Goes found Does old new NoSuch = (found ≡ None) × (new ≡ old)

-- what is left by an event, and by whether what it names is there
abbrev pub Plays : Event → WorldView → WorldView → Played → Type 0
Plays (Client client section step) old new played = Goes (step_named (client_steps client) old.script section step) (TakesStep (record { actor = client + 1; section = section; step = step })) old new played
Plays (Operator section step) old new played = Goes (step_named operator_steps old.script section step) (TakesOrder (record { actor = 1; section = section; step = step })) old new played
Plays (Round section round centre role) old new played = Goes (work_named old.script section round centre role) (λ does. TakesRound (turn_of old.script section round does) does) old new played
Plays (Again client note centre) old new played = Goes (if_centre old centre (commit_named old client note)) (λ tx. AsksOnce (client + 1) centre (Commit tx)) old new played
Plays (Carry from entry index to) old new played = Goes (if_centre old to (record_named old from entry index)) (λ sent. AsksOnce 1 to (delivery_of sent)) old new played

-- ---- an early end

-- the turn of an actor came to an early end: its log has some notes more, and the trail of each centre some entries more,
-- each of them with the answer that is due; no other log changed, and no setting of a centre did
pub record ActsPart (actor : ℕ) (old new : WorldView) : Type 0 where
  pub script : new.script ≡ old.script
  pub notes : List Note
  pub own : (log_at new.logs actor).notes ≡ (log_at old.logs actor).notes ++ notes
  pub others : (other : ℕ) → other ≢ actor → log_at new.logs other ≡ log_at old.logs other
  pub more : ℕ → List Entry
  pub trails : (i : ℕ) → trail_at new.centres i ≡ trail_at old.centres i ++ more i
  pub settings : map (λ (centre : CentreTrail). centre.settings) new.centres ≡ map (λ (centre : CentreTrail). centre.settings) old.centres
  pub histories : AreHistories new.centres

-- that of a client: of the clients this one alone may have changed, and no link nor tap did
pub record TakesStepPart (client : ℕ) (old new : WorldView) : Type 0 where
  pub later : StubView
  pub stubs : new.stubs ≡ slice_set old.stubs (client - 1) later
  pub posts : new.posts ≡ old.posts
  pub taps : new.taps ≡ old.taps
  pub acts : ActsPart (client + 1) old new

-- that of the operator: no client changed, no link, and no tap
pub record TakesOrderPart (old new : WorldView) : Type 0 where
  pub stubs : new.stubs ≡ old.stubs
  pub posts : new.posts ≡ old.posts
  pub taps : new.taps ≡ old.taps
  pub acts : ActsPart 1 old new

-- that of a worker: no client changed and no tap, and the links as far as its work came
pub record TakesRoundPart (turn : Turn) (centre : ℕ) (does : Work) (old new : WorldView) : Type 0 where
  pub door : DoorView
  pub log : Logged
  pub works : HasWorkedPart old.script.n centre does old.posts new.posts (acting (shown_of (begun turn.actor old.centres)) (log_in turn (log_at old.logs turn.actor))) (acting door log)
  pub stubs : new.stubs ≡ old.stubs
  pub taps : new.taps ≡ old.taps
  pub acts : ActsPart turn.actor old new

-- an ask outside of the script came to an early end: nothing changed, or the centre answered it and no log has a note of it
pub record AsksOncePart (centre : ℕ) (old new : WorldView) : Type 0 where
  pub script : new.script ≡ old.script
  pub stubs : new.stubs ≡ old.stubs
  pub posts : new.posts ≡ old.posts
  pub taps : new.taps ≡ old.taps
  pub notes : (actor : ℕ) → (log_at new.logs actor).notes ≡ (log_at old.logs actor).notes
  pub trail : (trail_at new.centres centre ≡ trail_at old.centres centre) ⊎ ((entry : Entry) × (trail_at new.centres centre ≡ trail_at old.centres centre ++ entry ∷ []))
  pub others : (i : ℕ) → i ≢ centre → trail_at new.centres i ≡ trail_at old.centres i
  pub settings : map (λ (centre : CentreTrail). centre.settings) new.centres ≡ map (λ (centre : CentreTrail). centre.settings) old.centres
  pub histories : AreHistories new.centres

-- what is left by an event that came to an early end
abbrev pub PlaysPart : Event → WorldView → WorldView → Type 0
PlaysPart (Client client section step) old new = TakesStepPart client old new
PlaysPart (Operator section step) old new = TakesOrderPart old new
PlaysPart (Round section round centre role) old new = (does : Work) × (work_named old.script section round centre role ≡ Some (work_of centre does)) × TakesRoundPart (turn_of old.script section round (work_of centre does)) centre does old new
PlaysPart (Again client note centre) old new = AsksOncePart centre old new
PlaysPart (Carry from entry index to) old new = AsksOncePart to old new

-- ---- what may be asked

-- an actor may ask so next, and no session hears the answer
abbrev pub MayAsk : ℕ → ℕ → Ask → WorldView → Type 0
MayAsk actor centre ask w = (all : List Happened) → IsWorld w all → (say : Say) → Happens w.script.n (setup_of w.script) all (record { actor = actor; note = marked 0 0 (Asked centre ask (Unheard say)) })
