-- Books of scripts whose steps happened one after another are one.
use Rattle.std.proofs.Common.{◌≡◌, refl, sym, ◌∙◌, subst}
use Rattle.script_core.specs.declared.script.Script.{Script}
use Rattle.script_core.specs.Scripts.{IsInRange}
use Rattle.run_book.specs.declared.book.Book.{Book}
use Rattle.run_book.specs.Setups.{setup_of}
use Rattle.run_book.specs.Fit.{FitsWith}
use Rattle.run_book.specs.Scripted.{HasSteps}
use Rattle.run_sections.specs.Runs.{IsSectionRunOf, HasNoPhase}
use Rattle.run_sections.proofs.InOneOrder.{has_steps}
use Rattle.run_sections.specs.OneThread.{IsRunOf}
use Rattle.run_forks.proofs.Books.{AreRuns, same_trails}
use Rattle.run_laws.specs.OneBook.{AreOne}
use Rattle.run_laws.proofs.Logs.{same_logs, same_texts}

-- a book of a script whose steps happened one after another
pub record IsInOrder (script : Script) (b : Book) : Type 0 where
  pub n : b.n ≡ script.n
  pub k : b.k ≡ script.k
  pub fits : FitsWith b (setup_of script)
  pub steps : HasSteps script b

-- so is each of a run on one thread
pub run_in_order : (script : Script) (b : Book) → IsRunOf script b → IsInOrder script b
run_in_order script b run = record { n = run.n; k = run.k; fits = run.fits; steps = run.steps }

-- and each of a run section by section, where there is no phase
pub sections_in_order : (script : Script) (b : Book) → IsInRange script → HasNoPhase script → IsSectionRunOf script b → IsInOrder script b
sections_in_order script b range lines run = record { n = run.n; k = run.k; fits = run.fits; steps = has_steps script b range lines run }

-- two such books are two runs of a script
pub are_runs : (script : Script) (b c : Book) → IsInOrder script b → IsInOrder script c → AreRuns script b c
are_runs script b c one two = record { n = one.n; also_n = two.n; k = one.k; also_k = two.k; one = one.fits; two = two.fits; steps = one.steps; again = two.steps }

-- they are one
pub ordered_book : (script : Script) (b c : Book) → IsInOrder script b → IsInOrder script c → AreOne b c
ordered_book script b c one two =
    let runs = are_runs script b c one two in
    let logs = same_logs script b c runs in
    record { n = one.n ∙ sym two.n; k = one.k ∙ sym two.k; trails = same_trails script b c runs; logs = logs; texts = same_texts b.logs c.logs logs }

-- two runs of a script on one thread have one book
pub one_book : (script : Script) (b c : Book) → IsRunOf script b → IsRunOf script c → AreOne b c
one_book script b c one two = ordered_book script b c (run_in_order script b one) (run_in_order script c two)

-- so have two of a script without a phase, one of them section by section, and both
pub one_either_way : (script : Script) (b c : Book) → IsInRange script → HasNoPhase script → IsSectionRunOf script b → IsRunOf script c → AreOne b c
one_either_way script b c range lines one two = ordered_book script b c (sections_in_order script b range lines one) (run_in_order script c two)

pub one_by_sections : (script : Script) (b c : Book) → IsInRange script → HasNoPhase script → IsSectionRunOf script b → IsSectionRunOf script c → AreOne b c
one_by_sections script b c range lines one two = ordered_book script b c (sections_in_order script b range lines one) (sections_in_order script c range lines two)

-- a book is one with itself
pub one_self : (b c : Book) → b ≡ c → AreOne b c
one_self b c same = subst (AreOne b) same (record { n = refl; k = refl; trails = refl; logs = refl; texts = refl })
