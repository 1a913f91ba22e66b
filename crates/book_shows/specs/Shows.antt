-- The shows of a book, by the trails of its centres.
use Rattle.std.specs.Prelude.{ℕ}
use Rattle.script_core.specs.declared.script.Script.{Script}
use Rattle.script_core.specs.Steps.{IsCount}
use Rattle.script_core.specs.Taps.{objects_on}
use Rattle.run_book.specs.declared.book.Book.{Book}
use Rattle.run_book.specs.Setups.{setup_of, centre_settings}
use Rattle.run_book.specs.Parts.{trail_of}
use Rattle.run_laws.specs.Looks.{shows_before}
use Rattle.show_law.specs.Shows.{AreTapShows}

-- the shows of each centre's tap, in front of the section of each number and behind the last one, are the opening one and
-- shows of the centre's trail, in its order
pub record AreBookShows (script : Script) (b : Book) : Type 0 where
  pub shows : (centre number : ℕ) → IsCount script.n centre → AreTapShows (centre_settings b (setup_of script) centre) (trail_of b centre) (objects_on script.taps centre) (shows_before script b number centre)
