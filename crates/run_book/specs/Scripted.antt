-- When a book has the steps of a script.
use Rattle.std.specs.Prelude.{◌≡◌, ℕ, List}
use Rattle.script_core.specs.declared.script.Script.{Script}
use Rattle.run_book.specs.declared.book.Book.{Book}
use Rattle.run_book.specs.Parts.{trail_of, notes_of}
use Rattle.run_book.specs.Happenings.{Happened, notes_by, trail_in}
use Rattle.run_book.specs.Moves.{moves_of}
use Rattle.run_book.specs.Played.{first_stage, Plays}

-- the book of a run on one thread has the steps of a script: something happened by just the moves of the script, one
-- after another; each log has the notes that its actor left in it, and each trail the entries
pub record HasSteps (script : Script) (b : Book) : Type 0 where
  pub all : List Happened
  pub plays : Plays script.n script.clients (first_stage script) (moves_of script) all
  pub notes : (a : ℕ) → notes_of b a ≡ notes_by a all
  pub trails : (i : ℕ) → trail_of b i ≡ trail_in i all
