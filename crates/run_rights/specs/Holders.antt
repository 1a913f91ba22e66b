-- The holders of bounded counters in the book of a script: their rights, the value of a counter, and the lines that tell
-- rights.
use Rattle.std.specs.Prelude.{◌≡◌, ◌⊎◌, ℕ, ℤ, ◌+ℤ◌, List, Some, slice_get}
use Rattle.std.specs.List.{range_with_len}
use Rattle.ids_core.specs.declared.ids.Dot.{Dot}
use Rattle.ids_core.specs.declared.object.ObjectId.{ObjectId}
use Rattle.obj_bounded.specs.CellNames.{gain_cells, loss_cells}
use Rattle.dc_talk.specs.declared.line.Line.{Line}
use Rattle.dc_talk.specs.declared.log.Deed.TheVariants.{Told}
use Rattle.dc_talk.specs.declared.log.Note.{Note}
use Rattle.dc_talk.specs.Clients.{draft_updates}
use Rattle.script_core.specs.declared.script.Script.{Script}
use Rattle.script_core.specs.Scripts.{IsInRange}
use Rattle.script_core.specs.Steps.{holders_of}
use Rattle.run_book.specs.declared.book.Book.{Book}
use Rattle.run_book.specs.Setups.{setup_of}
use Rattle.run_book.specs.Parts.{notes_of}
use Rattle.run_book.specs.Fit.{FitsWith}
use Rattle.run_book.specs.Graphs.{graph, basis_at, client_at}
use Rattle.run_book.specs.Scripted.{HasSteps}
use Rattle.run_sections.specs.Runs.{HasSectionSteps}
use Rattle.graph_rights.specs.Accounts.{sum_over}
use Rattle.graph_rights.specs.Rights.{rights_over, rights_in}

-- the book fits a script in range, and has its steps, on one thread or section by section, with threads in its phases
pub record IsPlayOf (script : Script) (b : Book) : Type 0 where
  pub ranged : IsInRange script
  pub fits : FitsWith b (setup_of script)
  pub steps : HasSteps script b ⊎ HasSectionSteps script b

-- ---- cells

-- the cells of a counter of the script that count for a holder
abbrev pub holder_gains : Script → List ℕ → ℕ → List ObjectId
holder_gains script name holder = gain_cells name holder (holders_of script.clients)

-- and those that count against it
abbrev pub holder_losses : Script → List ℕ → ℕ → List ObjectId
holder_losses script name holder = loss_cells name holder (holders_of script.clients)

-- ---- rights

-- the rights of a holder in the counter of this name over a set of dots
abbrev pub holder_rights : Script → Book → List ℕ → ℕ → List Dot → ℤ
holder_rights script b name holder set = rights_over (holder_gains script name holder) (holder_losses script name holder) (graph b (setup_of script)) set

-- the value of the counter over a set of dots: the sum of the rights of all its holders
abbrev pub value_over : Script → Book → List ℕ → List Dot → ℤ
value_over script b name set = sum_over (λ holder. holder_rights script b name holder set) (range_with_len 1 (holders_of script.clients))

-- the rights of a holder as an actor sees them at a place of its log: over the basis there, and by the updates of the
-- open transaction
abbrev pub rights_seen : Script → Book → List ℕ → ℕ → ℕ → ℕ → ℤ
rights_seen script b name holder a place =
    rights_over (holder_gains script name holder) (holder_losses script name holder) (graph b (setup_of script)) (basis_at b (setup_of script) a place)
    +ℤ rights_in (holder_gains script name holder) (holder_losses script name holder) (draft_updates (client_at b (setup_of script) a place))

-- ---- lines

-- at a place of an actor's log stands this line
pub record Tells (b : Book) (a place : ℕ) (line : Line) : Type 0 where
  pub note : Note
  pub there : slice_get (notes_of b a) place ≡ Some note
  pub deed_is : note.deed ≡ Told line
