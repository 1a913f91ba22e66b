-- The system on one thread: the centres, the clients, and the logs of all actors.
use Rattle.std.specs.Prelude.{◌≡◌, ◌≤◌, ℕ, zero, suc, ◌+◌, ◌-◌, ◌*◌, Bool, length, map, List, ◌++◌, Option, Some, None, unwrap_or, slice_get, slice_set}
use Rattle.list_core.specs.Members.{In}
use Rattle.std.specs.Option.{option_map}
use Rattle.vv_core.specs.Vectors.{centres}
use Rattle.dc_talk.specs.declared.sent.Sent.{Sent}
use Rattle.dc_talk.specs.declared.log.Deed.{Deed}
use Rattle.dc_talk.specs.declared.log.Note.{Note}
use Rattle.dc_talk.specs.Logs.{Logged, marked, entries_made}
use Rattle.dc_talk.specs.Rule.{client_after}
use Rattle.dc_door.specs.Centres.{CentreTrail}
use Rattle.dc_door.specs.KeptDoors.{trail_at}
use Rattle.script_core.specs.declared.script.Script.{Script}
use Rattle.script_core.specs.Steps.{IsCount}
use Rattle.script_core.specs.Deeds.{Progress}
use Rattle.script_core.specs.Mail.{Post, lying}
use Rattle.script_core.specs.declared.taps.TapState.{TapState}
use Rattle.dc_mail.specs.Posts.{post_at}
use Rattle.client_stub.specs.Playing.{StubView}
use Rattle.run_book.specs.Setups.{setup_of, settings_among}
use Rattle.run_book.specs.Played.{Stage, new_progress}
use Rattle.run_book.specs.Happenings.{Happened, notes_by, trail_in, trails_in, happening, WasSent, AreTogether}
use Rattle.run_table.specs.declared.table.Table.{Table}
use Rattle.run_table.specs.Tables.{Turn, log_at}
use Rattle.run_table.specs.Taps.{taps_of}

-- what a world is seen as: the script that it plays; the settings and the trail of each centre; each client with the
-- fault that is armed for it; the logs of all actors, by their numbers; what lies on the links; the tap of each centre;
-- and whether the world is spent, so that it plays no more
pub record WorldView : Type 0 where
  pub script : Script
  pub centres : List CentreTrail
  pub stubs : List StubView
  pub logs : List Logged
  pub posts : List Post
  pub taps : List TapState
  pub spent : Bool

-- a client, counted from 1
abbrev pub stub_at : List StubView → ℕ → Option StubView
stub_at stubs zero = None
stub_at stubs (suc place) = slice_get stubs place

-- how far the client with a number is
abbrev pub progress_at : WorldView → ℕ → StubView → Progress
progress_at w client stub = record { client = stub.client; armed = stub.armed; notes = (log_at w.logs (client + 1)).notes }

-- the notes of deeds in a turn
abbrev pub notes_in : Turn → List Deed → List Note
notes_in turn deeds = map (marked turn.section turn.step) deeds

-- the log of an actor after deeds in its turn
abbrev pub log_after : Turn → List Deed → Logged → Logged
log_after turn deeds log = record log { section = turn.section; step = turn.step; notes = log.notes ++ notes_in turn deeds }

-- each record that lies on a link between two of n centres was sent
abbrev pub IsMailSent : ℕ → List Post → List Happened → Type 0
IsMailSent n posts all = (from to : ℕ) → IsCount n from → IsCount n to → (item : Sent) → In item (lying (post_at posts from to)) → WasSent (trails_in all) item

-- the world is one in which this happened: the trails and the logs are what is left of it at each centre and of each
-- actor, each client is as its log says, and what lies on the links was sent
pub record IsWorld (w : WorldView) (all : List Happened) : Type 0 where
  pub settings : map (λ centre. centre.settings) w.centres ≡ map (settings_among w.script.n w.script.k (setup_of w.script)) (centres w.script.n)
  pub trails : (i : ℕ) → trail_at w.centres i ≡ trail_in i all
  pub stub_count : length w.stubs ≡ w.script.clients
  pub stubs : (client : ℕ) (stub : StubView) → stub_at w.stubs client ≡ Some stub → stub.client ≡ client_after w.script.n client w.script.cache (notes_by (client + 1) all)
  pub log_count : length w.logs ≡ 1 + w.script.clients + 4 * w.script.n
  pub actors : (actor : ℕ) → 1 ≤ actor → actor ≤ length w.logs → (log_at w.logs actor).actor ≡ actor
  pub notes : (actor : ℕ) → (log_at w.logs actor).notes ≡ notes_by actor all
  pub mail : IsMailSent w.script.n w.posts all
  pub together : AreTogether w.script.n w.script.k (setup_of w.script) all

-- deeds of an actor in its turn: its log ends with them, and each trail with their entries; no other note, entry or
-- setting changes; and where this world was one in which something happened, it is one in which they did next
pub record Acts (turn : Turn) (deeds : List Deed) (old new : WorldView) : Type 0 where
  pub script : new.script ≡ old.script
  pub spent : new.spent ≡ old.spent
  pub logs : new.logs ≡ slice_set old.logs (turn.actor - 1) (log_after turn deeds (log_at old.logs turn.actor))
  pub settings : map (λ centre. centre.settings) new.centres ≡ map (λ centre. centre.settings) old.centres
  pub trails : (i : ℕ) → trail_at new.centres i ≡ trail_at old.centres i ++ entries_made turn.actor i deeds
  pub goes_on : (all : List Happened) → IsWorld old all → IsWorld new (all ++ happening turn.actor (notes_in turn deeds))

-- how far each client of a world is, what lies on its links, and what its taps show
abbrev pub stage_of : WorldView → Stage
stage_of w = record {
  come = λ client. unwrap_or (option_map (progress_at w client) (stub_at w.stubs client)) (new_progress w.script.n client w.script.cache);
  posts = post_at w.posts;
  taps = taps_of w.taps;
}

-- what the world of a table is seen as
abbrev pub seen_of : Script → Bool → Table → WorldView
seen_of script spent table = record { script = script; centres = table.door.centres; stubs = table.stubs.items; logs = table.logs.items; posts = table.posts; taps = table.taps.items; spent = spent }
