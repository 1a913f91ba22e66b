-- When a book is a run of a script on one thread.
use Rattle.std.specs.Prelude.{◌≡◌}
use Rattle.script_core.specs.declared.script.Script.{Script}
use Rattle.run_book.specs.declared.book.Book.{Book}
use Rattle.run_book.specs.Setups.{setup_of}
use Rattle.run_book.specs.Fit.{FitsWith}
use Rattle.run_book.specs.Scripted.{HasSteps}
use Rattle.run_book.specs.Refusals.{IsTimely}

-- the book is a run of the script: it is one of its centres, fits its setup, has its steps and is timely
pub record IsRunOf (script : Script) (b : Book) : Type 0 where
  pub n : b.n ≡ script.n
  pub k : b.k ≡ script.k
  pub fits : FitsWith b (setup_of script)
  pub steps : HasSteps script b
  pub timely : IsTimely b (setup_of script)
