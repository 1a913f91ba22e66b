-- The table of a run: the centres, the clients, the logs of all actors and the links; and what a step leaves of it.
use Rattle.std.specs.Prelude.{◌≡◌, ◌⊎◌, ℕ, zero, suc, ◌+◌, ◌-◌, ◌*◌, map, length, List, [], ◌∷◌, All, Some, None, slice_get, slice_set, slice_index_or}
use Rattle.std.specs.List.{range_with_len}
use Rattle.dc_talk.specs.declared.ask.Ask.{Ask}
use Rattle.dc_talk.specs.declared.say.Say.{Say}
use Rattle.dc_talk.specs.declared.log.Fate.TheVariants.{Unheard}
use Rattle.dc_talk.specs.declared.log.Deed.TheVariants.{Asked}
use Rattle.dc_talk.specs.Answers.{History}
use Rattle.dc_talk.specs.Clients.{new_client}
use Rattle.dc_talk.specs.Logs.{Logged, entry_for}
use Rattle.dc_talk.specs.Doors.{HasAsked, HasNotAsked}
use Rattle.dc_talk.specs.declared.log.Deed.{Deed}
use Rattle.dc_talk.specs.Acting.{Acting, Leaves, IsCutShort, acting}
use Rattle.dc_door.specs.Centres.{CentreTrail, new_centres}
use Rattle.dc_door.specs.KeptDoors.{shown_of, begun}
use Rattle.script_core.specs.declared.script.Script.{Script}
use Rattle.script_core.specs.declared.steps.ClientStep.{ClientStep}
use Rattle.script_core.specs.declared.steps.OperatorStep.{OperatorStep}
use Rattle.script_core.specs.Steps.{IsCount}
use Rattle.script_core.specs.Taps.{FeedsSo, taps_then, LooksSo}
use Rattle.client_stub.specs.Playing.{StubView, IsLinkBehind, Takes, Operates, beside}
use Rattle.script_core.specs.Mail.{Post}
use Rattle.dc_mail.specs.Posts.{post_at, new_posts}
use Rattle.run_book.specs.Parts.{idle_log}
use Rattle.run_book.specs.Moves.{Does, operator_does}
use Rattle.run_book.specs.Played.{Stage, new_progress, DoesSo, posts_after}
use Rattle.run_table.specs.declared.table.Table.{Table}
use Rattle.run_table.specs.declared.works.Work.{Work}
use Rattle.run_table.specs.Framing.{AreFramed}
use Rattle.run_table.specs.Works.{HasWorkedPart}
use Rattle.run_table.specs.Taps.{no_tap, taps_of, new_taps}

-- ---- at first

-- a client at first, with no fault armed
abbrev pub new_stub : ℕ → ℕ → ℕ → StubView
new_stub n cache client = record { client = new_client n client cache; armed = None }

-- the clients at first, in order
abbrev pub new_stubs : ℕ → ℕ → ℕ → List StubView
new_stubs n cache clients = map (new_stub n cache) (range_with_len 1 clients)

-- so many empty logs, in order
abbrev pub new_logs : ℕ → List Logged
new_logs actors = map idle_log (range_with_len 1 actors)

-- the table of a script's run at first
pub record IsNew (script : Script) (table : Table) : Type 0 where
  pub centres : table.door.centres ≡ new_centres script.n script.k script.limit
  pub stubs : table.stubs.items ≡ new_stubs script.n script.cache script.clients
  pub logs : table.logs.items ≡ new_logs (1 + script.clients + 4 * script.n)
  pub posts : table.posts ≡ new_posts
  pub taps : table.taps.items ≡ new_taps script.n script.taps

-- ---- a step

-- the log of an actor, counted from 1, and one without notes where there is none
abbrev pub log_at : List Logged → ℕ → Logged
log_at logs zero = idle_log 0
log_at logs (suc place) = slice_index_or logs place (idle_log 0)

-- whose turn it is, and the section and the step of its notes
pub record Turn : Type 0 where
  pub actor : ℕ
  pub section : ℕ
  pub step : ℕ

-- the links between n centres are as something that is done with these deeds leaves them
abbrev pub HasPosts : ℕ → Does → List Deed → List Post → List Post → Type 0
HasPosts n does deeds old new = (from to : ℕ) → IsCount n from → IsCount n to → post_at new from to ≡ posts_after does deeds (post_at old) from to

-- each trail is a history of its centre
abbrev pub AreHistories : List CentreTrail → Type 0
AreHistories centres = All (λ centre. History centre.settings centre.entries) centres

-- an actor's log as its turn begins
abbrev pub log_in : Turn → Logged → Logged
log_in turn log = record log { section = turn.section; step = turn.step }

-- a turn in which the actor's log became another: no other log changed, no setting of a centre did, and each trail is
-- a history of its centre
pub record IsTurn (turn : Turn) (log : Logged) (old new : Table) : Type 0 where
  pub logs : new.logs.items ≡ slice_set old.logs.items (turn.actor - 1) log
  pub settings : map (λ centre. centre.settings) new.door.centres ≡ map (λ centre. centre.settings) old.door.centres
  pub histories : AreHistories new.door.centres

-- a client took a step through the door in its turn, and saw what the tap shows where it looked through one
pub record HasStepped (turn : Turn) (step : ClientStep) (old new : Table) : Type 0 where
  pub stub : StubView
  pub there : slice_get old.stubs.items (turn.actor - 2) ≡ Some stub
  pub later : StubView
  pub log : Logged
  pub takes : Takes step (beside stub (shown_of (begun turn.actor old.door.centres)) (log_in turn (log_at old.logs.items turn.actor))) (beside later (shown_of new.door) log)
  pub looks : LooksSo (taps_of old.taps.items) stub.client.client step takes.deeds
  pub stubs : new.stubs.items ≡ slice_set old.stubs.items (turn.actor - 2) later
  pub posts : new.posts ≡ old.posts
  pub taps : new.taps.items ≡ old.taps.items
  pub turn_is : IsTurn turn log old new

-- the operator took a step through the door in its turn, fed the objects of the tap where it fed one, and the taps are as
-- that leaves them
pub record HasOperated (turn : Turn) (step : OperatorStep) (old new : Table) : Type 0 where
  pub log : Logged
  pub operates : Operates (length old.door.centres) step (acting (shown_of (begun turn.actor old.door.centres)) (log_in turn (log_at old.logs.items turn.actor))) (acting (shown_of new.door) log)
  pub stubs : new.stubs ≡ old.stubs
  pub posts : HasPosts (length old.door.centres) (operator_does step) operates.deeds old.posts new.posts
  pub feeds : FeedsSo (taps_of old.taps.items) step operates.deeds
  pub taps : (centre : ℕ) → taps_of new.taps.items centre ≡ taps_then step operates.deeds (taps_of old.taps.items) centre
  pub turn_is : IsTurn turn log old new

-- the turn of an actor outside of the script
abbrev pub outside : ℕ → Turn
outside actor = record { actor = actor; section = 0; step = 0 }

-- an actor asked a centre through the door, outside of the script, and no session heard the answer
pub record HasAskedOnce (actor centre : ℕ) (ask : Ask) (old new : Table) : Type 0 where
  pub say : Say
  pub log : Logged
  pub leaves : Leaves (acting (shown_of (begun actor old.door.centres)) (log_in (outside actor) (log_at old.logs.items actor))) (acting (shown_of new.door) log) (Asked centre ask (Unheard say) ∷ [])
  pub stubs : new.stubs ≡ old.stubs
  pub posts : new.posts ≡ old.posts
  pub taps : new.taps.items ≡ old.taps.items
  pub turn_is : IsTurn (outside actor) log old new

-- links on which this lies, whoever came how far, and whatever taps show
abbrev pub stage_with : List Post → Stage
stage_with posts = record { come = λ client. new_progress 0 client 0; posts = post_at posts; taps = λ centre. no_tap }

-- a worker made a round of a number over links, through a door: a log and what the door shows grow by deeds that are due,
-- and the links are as they leave them, where all that they mail has frames
pub record HasWorked (n number : ℕ) (does : Does) (old new : List Post) (a b : Acting) : Type 0 where
  pub deeds : List Deed
  pub such : DoesSo n (stage_with old) number does deeds
  pub leaves : Leaves a b deeds
  pub posts : AreFramed deeds → HasPosts n does deeds old new

-- a worker made a round in its turn
pub record HasMadeRound (turn : Turn) (does : Does) (old new : Table) : Type 0 where
  pub log : Logged
  pub works : HasWorked (length old.door.centres) turn.step does old.posts new.posts (acting (shown_of (begun turn.actor old.door.centres)) (log_in turn (log_at old.logs.items turn.actor))) (acting (shown_of new.door) log)
  pub stubs : new.stubs ≡ old.stubs
  pub taps : new.taps.items ≡ old.taps.items
  pub turn_is : IsTurn turn log old new

-- ---- an early end

-- an actor's turn came to an early end: its log has some notes more, and the trail of each centre some entries more, each of
-- them with the answer that is due; no other log changed, and no setting of a centre did
pub record IsCutTurn (turn : Turn) (old new : Table) : Type 0 where
  pub log : Logged
  pub short : IsCutShort (acting (shown_of (begun turn.actor old.door.centres)) (log_in turn (log_at old.logs.items turn.actor))) (acting (shown_of new.door) log)
  pub turn_is : IsTurn turn log old new

-- a client's turn came to an early end: of the clients this one alone may have changed, and its link goes to one of the
-- centres or to none; no tap changed
pub record HasSteppedPart (turn : Turn) (old new : Table) : Type 0 where
  pub later : StubView
  pub linked : IsLinkBehind (shown_of new.door) later.client
  pub stubs : new.stubs.items ≡ slice_set old.stubs.items (turn.actor - 2) later
  pub posts : new.posts ≡ old.posts
  pub taps : new.taps.items ≡ old.taps.items
  pub cut : IsCutTurn turn old new

-- the operator's turn came to an early end: no client changed, no link, and no tap
pub record HasOperatedPart (turn : Turn) (old new : Table) : Type 0 where
  pub stubs : new.stubs ≡ old.stubs
  pub posts : new.posts ≡ old.posts
  pub taps : new.taps.items ≡ old.taps.items
  pub cut : IsCutTurn turn old new

-- a worker's turn came to an early end: no client changed and no tap, and the links as far as its work came
pub record HasMadeRoundPart (turn : Turn) (centre : ℕ) (does : Work) (old new : Table) : Type 0 where
  pub cut : IsCutTurn turn old new
  pub works : HasWorkedPart (length old.door.centres) centre does old.posts new.posts (acting (shown_of (begun turn.actor old.door.centres)) (log_in turn (log_at old.logs.items turn.actor))) (acting (shown_of new.door) cut.log)
  pub stubs : new.stubs ≡ old.stubs
  pub taps : new.taps.items ≡ old.taps.items

-- an ask outside of the script came to an early end: it was not made, or the centre answered it and no log has a note of it
pub record HasAskedOncePart (actor centre : ℕ) (ask : Ask) (old new : Table) : Type 0 where
  pub asked : HasNotAsked (shown_of (begun actor old.door.centres)) (shown_of new.door) ⊎ ((say : Say) × HasAsked (shown_of (begun actor old.door.centres)) (shown_of new.door) centre (entry_for actor (ask, say)))
  pub stubs : new.stubs ≡ old.stubs
  pub posts : new.posts ≡ old.posts
  pub taps : new.taps.items ≡ old.taps.items
  pub turn_is : IsTurn (outside actor) (log_in (outside actor) (log_at old.logs.items actor)) old new
