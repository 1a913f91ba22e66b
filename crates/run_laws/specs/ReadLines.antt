-- When the text of a book tells the values that its clients read.
use Rattle.std.specs.Prelude.{◌≡◌, ◌⊎◌, ℕ, ◌+◌, ◌-◌, true, All, List, [], ◌++◌, Option, Some, None, flat_map, slice_get, codes}
use Rattle.std.specs.List.{filter_map, range_with_len}
use Rattle.list_core.specs.Members.{In}
use Rattle.ids_core.specs.declared.object.ObjectId.{ObjectId}
use Rattle.ids_core.specs.declared.object.Sort.TheVariants.{Counter}
use Rattle.tx_core.specs.declared.state.Value.{Value}
use Rattle.dc_talk.specs.declared.calls.Call.TheVariants.{Read}
use Rattle.dc_talk.specs.declared.calls.Outcome.TheVariants.{Got}
use Rattle.dc_talk.specs.declared.line.Line.{Line}
use Rattle.dc_talk.specs.declared.line.Line.TheVariants.{ReadValue}
use Rattle.dc_talk.specs.declared.log.Deed.{Deed}
use Rattle.dc_talk.specs.declared.log.Deed.TheVariants.{Did, Told}
use Rattle.dc_talk.specs.declared.log.Note.{Note}
use Rattle.dc_talk.specs.Logs.{Logged}
use Rattle.script_core.specs.Steps.{is_cell_name}
use Rattle.print_text.specs.Text.{last_section, line_text, notes_in, operator_last, text_of}
use Rattle.run_book.specs.declared.book.Book.{Book}
use Rattle.run_book.specs.Causal.{Reads}
use Rattle.run_book.specs.Graphs.{basis_at}
use Rattle.run_book.specs.Parts.{notes_of}
use Rattle.run_book.specs.Setups.{Setup}
use Rattle.run_steps.specs.Logs.{InSteps}

-- ---- the lines of a text

-- the line that a deed tells, where it tells one
abbrev pub line_of : Deed → Option Line
line_of (Told line) = Some line
line_of _ = None

-- the lines of a section in logs, one log behind the other
abbrev pub section_lines : List Logged → ℕ → List Line
section_lines logs section = flat_map (λ log. filter_map (λ note. line_of note.deed) (notes_in section log.notes)) logs

-- the lines of the logs of all actors, in the order in which their text has them
abbrev pub lines_of : List Logged → List Line
lines_of logs = flat_map (section_lines (operator_last logs)) (range_with_len 1 (last_section logs))

-- a line with its line feed
abbrev pub printed : Line → List ℕ
printed line = line_text line ++ codes "\n"

-- ---- the values that were read

-- the line with the value of a read, where a deed tells one
abbrev pub value_told : Deed → Option Line
value_told (Told (ReadValue client object value)) = Some (ReadValue client object value)
value_told _ = None

-- the line that is due for a deed of a client, where it is a read that got a value
abbrev pub value_due : ℕ → Deed → Option Line
value_due client (Did (Read object) (Got value)) = Some (ReadValue client object value)
value_due client _ = None

-- the lines with values among deeds of a client are those that are due for its reads: one for each read that got a
-- value, in the order of the reads, with the client, the object and the value
abbrev pub TellsReads : ℕ → List Deed → Type 0
TellsReads client deeds = filter_map value_told deeds ≡ filter_map (value_due client) deeds

-- a counter with such a name as the cells of bounded counters have
abbrev pub IsNamedAsCell : ObjectId → Type 0
IsNamedAsCell object = (object.sort ≡ Counter) × (is_cell_name object.name ≡ true)

-- a deed that is no read but of such a counter
abbrev pub ReadsNoOther : Deed → Type 0
ReadsNoOther (Did (Read object) outcome) = IsNamedAsCell object
ReadsNoOther _ = Unit {0}

-- deeds of which none tells a value, and each read is of a cell of a bounded counter
pub record ReadsCellsAlone (deeds : List Deed) : Type 0 where
  pub silent : filter_map value_told deeds ≡ []
  pub cells : All ReadsNoOther deeds

-- a part of a client's log: it tells what it reads, or it reads cells of bounded counters and tells no value
abbrev pub TellsPart : ℕ → List Deed → Type 0
TellsPart client deeds = TellsReads client deeds ⊎ ReadsCellsAlone deeds

-- a client of the book read an object and got this value
pub record HasRead (b : Book) (setup : Setup) (client : ℕ) (object : ObjectId) (value : Value) : Type 0 where
  pub place : ℕ
  pub read : Reads b setup (record { actor = client + 1; place = place; object = object; value = value })

-- the note of an actor before a place is a read of this object that got this value, and the actor stands at the place on
-- what it stood on at the read
pub record StandsBehind (b : Book) (setup : Setup) (actor place : ℕ) (object : ObjectId) (value : Value) : Type 0 where
  pub before : ℕ
  pub next : place ≡ before + 1
  pub read : Reads b setup (record { actor = actor; place = before; object = object; value = value })
  pub stands : basis_at b setup actor place ≡ basis_at b setup actor before

-- the text of a book tells the values that its clients read. It is its lines, one behind the other; each line with a
-- value is of a read of that client, of that object and with that value; each read that got a value has its line, where it
-- is of no cell of a bounded counter; the notes of an actor are those of parts, one after another, in each of which these
-- lines are one for each read, in the order of the reads, or cells alone are read, and there is no such line; and the note
-- with such a line stands right behind the read
pub record TellsValues (b : Book) (setup : Setup) : Type 0 where
  pub text : text_of b.logs ≡ flat_map printed (lines_of b.logs)
  pub read : (client : ℕ) (object : ObjectId) (value : Value) → In (ReadValue client object value) (lines_of b.logs) → HasRead b setup client object value
  pub told : (client : ℕ) (object : ObjectId) (value : Value) → (IsNamedAsCell object → ⊥) → HasRead b setup client object value → In (ReadValue client object value) (lines_of b.logs)
  pub each : (actor : ℕ) → InSteps (TellsPart (actor - 1)) (notes_of b actor)
  pub behind : (actor place client : ℕ) (object : ObjectId) (value : Value) (note : Note) → slice_get (notes_of b actor) place ≡ Some note → note.deed ≡ Told (ReadValue client object value) → StandsBehind b setup actor place object value
