-- What the lines of looks in a book show.
use Rattle.std.specs.Prelude.{◌≡◌, ℕ, ◌+◌, ◌-◌, take, List, [], ◌∷◌, Option, Some, None, slice_get}
use Rattle.ids_core.specs.declared.object.ObjectId.{ObjectId}
use Rattle.dc_talk.specs.declared.seen.Seen.{Seen}
use Rattle.dc_talk.specs.declared.line.Line.TheVariants.{Look}
use Rattle.dc_talk.specs.declared.log.Deed.TheVariants.{Told}
use Rattle.dc_talk.specs.declared.log.Note.{Note}
use Rattle.script_core.specs.declared.script.Script.{Script}
use Rattle.script_core.specs.declared.steps.OperatorStep.{OperatorStep}
use Rattle.script_core.specs.declared.steps.Section.{Section}
use Rattle.script_core.specs.declared.taps.Show.{Show}
use Rattle.script_core.specs.Steps.{IsCount}
use Rattle.script_core.specs.Taps.{objects_on, first_tap, seen_through}
use Rattle.print_text.specs.Text.{notes_in}
use Rattle.run_book.specs.declared.book.Book.{Book}
use Rattle.run_book.specs.Moves.{operator_steps}
use Rattle.run_book.specs.Parts.{notes_of}
use Rattle.run_sections.specs.Taps.{shows_at, tap_behind, shows_behind, LooksAlong}

-- ---- the shows of a book

-- the shows behind a section of a number, by what the operator noted in it
abbrev pub shows_next : Book → ℕ → Section → (ℕ → List Show) → ℕ → List Show
shows_next b number section shows = shows_behind (notes_in number (notes_of b 1)) 1 (operator_steps section) shows

-- the shows behind sections, which are counted from a number on
abbrev pub shows_through : Book → ℕ → List Section → (ℕ → List Show) → ℕ → List Show
shows_through b number [] shows = shows
shows_through b number (section ∷ rest) shows = shows_through b (number + 1) rest (shows_next b number section shows)

-- the shows of each centre's tap where a section of a number begins: the opening one, and then what each feed in an earlier
-- section found, in the operator's order
abbrev pub shows_before : Script → Book → ℕ → ℕ → List Show
shows_before script b number = shows_through b 1 (take (number - 1) script.sections) (shows_at (first_tap script.n script.taps))

-- ---- looks

-- each line of a look in a client's log is of that client, and it shows what the tap of its centre has of the object in one of
-- these shows: one that is there by the end of the line's section, that is no earlier one than the last of earlier sections, and
-- no earlier one than the client's last look at that centre showed
pub record ShowsTaps (script : Script) (b : Book) : Type 0 where
  pub looks : (client : ℕ) → IsCount script.clients client → LooksAlong (objects_on script.taps) (shows_before script b) client (λ centre. 0) (notes_of b (client + 1))

-- ---- looks of a run on one thread

-- the operator's steps in a section, where it is there
abbrev pub orders_in : Option Section → List OperatorStep
orders_in None = []
orders_in (Some section) = operator_steps section

-- the shows in front of a step of a number in a section: those of earlier sections, and what feeds in earlier steps of this
-- one found
abbrev pub shows_by : Script → Book → ℕ → ℕ → ℕ → List Show
shows_by script b number step = shows_behind (notes_in number (notes_of b 1)) 1 (take (step - 1) (orders_in (slice_get script.sections (number - 1)))) (shows_before script b number)

-- each line of a look in a client's log is of that client, and it shows what the tap of its centre has of the object in
-- the last show in front of its step
pub record ShowsLast (script : Script) (b : Book) : Type 0 where
  pub shown : (client place looker centre : ℕ) (object : ObjectId) (seen : Seen) (note : Note) → IsCount script.clients client → slice_get (notes_of b (client + 1)) place ≡ Some note → note.deed ≡ Told (Look looker centre object seen) → (looker ≡ client) × (seen_through (tap_behind (first_tap script.n script.taps centre) (shows_by script b note.section note.step centre)) object ≡ Some seen)
