-- A run between two sections, by the parts of its table.
use Rattle.std.specs.Prelude.{◌≡◌, ℕ, ◌+◌, ◌-◌, map, length, List, ◌++◌, unwrap_or, slice_get}
use Rattle.std.specs.Option.{option_map}
use Rattle.dc_talk.specs.declared.log.Note.{Note}
use Rattle.dc_door.specs.KeptDoors.{trail_at, settings_of}
use Rattle.dc_mail.specs.Posts.{post_at}
use Rattle.vv_core.specs.Vectors.{centres}
use Rattle.script_core.specs.declared.script.Script.{Script}
use Rattle.script_core.specs.declared.steps.Section.{Section}
use Rattle.script_core.specs.Steps.{IsCount}
use Rattle.script_core.specs.Deeds.{Progress}
use Rattle.client_stub.specs.Playing.{StubView}
use Rattle.run_book.specs.Setups.{setup_of, settings_among}
use Rattle.run_book.specs.Happenings.{ClientDoes, IsLinkWithin}
use Rattle.run_book.specs.Played.{new_progress}
use Rattle.run_table.specs.declared.table.Table.{Table}
use Rattle.run_table.specs.Tables.{log_at, AreHistories}
use Rattle.run_table.specs.Taps.{taps_of}
use Rattle.run_sections.specs.Sections.{Between, Left, PlaysSection, actors_of}
use Rattle.thread_run.specs.Taps.{IsWide}

-- the notes of an actor
abbrev pub notes_at : Table → ℕ → List Note
notes_at table a = (log_at table.logs.items a).notes

-- how far a client has come, by its stub and its notes
abbrev pub come_of : List Note → StubView → Progress
come_of notes stub = record { client = stub.client; armed = stub.armed; notes = notes }

-- how far each client has come, the end of each link, and what each centre's tap shows
abbrev pub between_of : Script → Table → Between
between_of script table = record {
  come = λ client. unwrap_or (option_map (come_of (notes_at table (client + 1))) (slice_get table.stubs.items (client - 1))) (new_progress script.n client script.cache);
  inlets = λ from to. (post_at table.posts from to).inlet;
  taps = taps_of table.taps.items;
}

-- each client is linked to no centre, or to one that there is
abbrev pub AreLinked : Script → Table → Type 0
AreLinked script table = (client : ℕ) → IsCount script.clients client → IsLinkWithin script.n ((between_of script table).come client).client.link

-- each tap shows a state of each of its objects
abbrev pub AreWide : Script → Table → Type 0
AreWide script table = (i : ℕ) → IsCount script.n i → IsWide (taps_of table.taps.items i)

-- each client has its own number
abbrev pub AreNumbered : Script → Table → Type 0
AreNumbered script table = (client : ℕ) → IsCount script.clients client → ((between_of script table).come client).client.client ≡ client

-- the parts are those of a script: a centre for each of its numbers, with its settings and a history, a stub for each
-- client, and a log for each actor
pub record IsTableOf (script : Script) (table : Table) : Type 0 where
  pub settings : settings_of table.door.centres ≡ map (settings_among script.n script.k (setup_of script)) (centres script.n)
  pub histories : AreHistories table.door.centres
  pub stubs : length table.stubs.items ≡ script.clients
  pub logs : length table.logs.items ≡ actors_of script
  pub actors : (a : ℕ) → IsCount (actors_of script) a → (log_at table.logs.items a).actor ≡ a

-- a section was played: its notes stand behind those of each actor, and its entries behind those of each centre
pub record HasPlayed (script : Script) (number : ℕ) (section : Section) (old new : Table) : Type 0 where
  pub left : Left
  pub plays : PlaysSection script number section (between_of script old) left (between_of script new)
  pub is : IsTableOf script new
  pub notes : (a : ℕ) → IsCount (actors_of script) a → notes_at new a ≡ notes_at old a ++ left.notes a
  pub trails : (i : ℕ) → trail_at new.door.centres i ≡ trail_at old.door.centres i ++ left.entries i
  pub allowed : (client : ℕ) → IsCount script.clients client → ClientDoes ((between_of script old).come client).client (notes_at old (client + 1)) (left.notes (client + 1))
