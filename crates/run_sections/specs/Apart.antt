-- Notes of actors and trails of centres that belong together, where nothing is said of what came first of two actors.
use Rattle.std.specs.Prelude.{◌≡◌, ◌≢◌, ℕ, ◌+◌, length, List, [], ◌++◌}
use Rattle.list_core.specs.Members.{In}
use Rattle.dc_talk.specs.declared.log.Note.{Note}
use Rattle.dc_talk.specs.Entries.{Entry}
use Rattle.dc_talk.specs.Answers.{History}
use Rattle.dc_talk.specs.Rule.{Follows, client_after}
use Rattle.script_core.specs.declared.script.Script.{Script}
use Rattle.script_core.specs.Steps.{IsCount}
use Rattle.run_book.specs.declared.book.Book.{Book}
use Rattle.run_book.specs.Setups.{setup_of, settings_among}
use Rattle.run_book.specs.Parts.{trail_of, log_of, notes_of, exchanged, entries_by}
use Rattle.run_book.specs.Happenings.{GoesToOneOf, CarrierAllows, IsCarrier}
use Rattle.run_sections.specs.Sections.{actors_of, Between, Left}

-- each centre's trail is a history; the entries of each actor in it are what its notes exchanged there, with no others;
-- each ask goes to a centre; the notes of the clients follow the session rule, and what the others deliver and teach was
-- sent and reported, be it before or behind
pub record AreApart (script : Script) (notes : ℕ → List Note) (trails : ℕ → List Entry) : Type 0 where
  pub histories : (i : ℕ) → IsCount script.n i → History (settings_among script.n script.k (setup_of script) i) (trails i)
  pub outside : (i : ℕ) → (IsCount script.n i → ⊥) → trails i ≡ []
  pub callers : (i : ℕ) (entry : Entry) → IsCount script.n i → In entry (trails i) → IsCount (actors_of script) entry.caller
  pub paired : (i a : ℕ) → IsCount script.n i → IsCount (actors_of script) a → entries_by a (trails i) ≡ exchanged i (notes a)
  pub reach : (a : ℕ) (note : Note) → IsCount (actors_of script) a → In note (notes a) → GoesToOneOf script.n note.deed
  pub clients : (client : ℕ) → IsCount script.clients client → Follows script.n client script.cache (notes (client + 1))
  pub carriers : (a : ℕ) (note : Note) → IsCarrier script.n script.clients a → In note (notes a) → CarrierAllows trails note.deed

-- the book has these notes and trails
pub record IsBookWith (script : Script) (b : Book) (notes : ℕ → List Note) (trails : ℕ → List Entry) : Type 0 where
  pub n : b.n ≡ script.n
  pub k : b.k ≡ script.k
  pub trail_count : length b.trails ≡ script.n
  pub log_count : length b.logs ≡ actors_of script
  pub trails_are : (i : ℕ) → IsCount script.n i → trail_of b i ≡ trails i
  pub actors : (a : ℕ) → IsCount (actors_of script) a → (log_of b a).actor ≡ a
  pub notes_are : (a : ℕ) → IsCount (actors_of script) a → notes_of b a ≡ notes a

-- the notes and the trails with what a section left behind them
abbrev pub notes_then : (ℕ → List Note) → Left → ℕ → List Note
notes_then notes left a = notes a ++ left.notes a

abbrev pub trails_then : (ℕ → List Entry) → Left → ℕ → List Entry
trails_then trails left i = trails i ++ left.entries i

-- where these notes were made, each client is as its own say, and no link between two centres holds an item
pub record StandsAt (script : Script) (notes : ℕ → List Note) (here : Between) : Type 0 where
  pub clients : (client : ℕ) → IsCount script.clients client → (here.come client).client ≡ client_after script.n client script.cache (notes (client + 1))
  pub own : (client : ℕ) → IsCount script.clients client → (here.come client).notes ≡ notes (client + 1)
  pub none_held : (from to : ℕ) → IsCount script.n from → IsCount script.n to → from ≢ to → (here.inlets from to).held ≡ []
