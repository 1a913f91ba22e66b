-- When a book has the steps of a script that were played section by section, with threads in its phases.
use Rattle.std.specs.Prelude.{◌≡◌, ℕ, ◌+◌, false, flat_map, All, List, [], ◌∷◌}
use Rattle.script_core.specs.declared.script.Script.{Script}
use Rattle.script_core.specs.declared.steps.Section.{Section}
use Rattle.script_core.specs.Steps.{IsCount}
use Rattle.run_book.specs.declared.book.Book.{Book}
use Rattle.run_book.specs.Setups.{setup_of}
use Rattle.run_book.specs.Parts.{trail_of, notes_of}
use Rattle.run_book.specs.Fit.{FitsWith}
use Rattle.run_sections.specs.Sections.{Between, first_between, actors_of, Left, PlaysSection}

-- the sections of a script from a number on, one after another, with what each leaves
pub data PlaysSections (script : Script) : ℕ → Between → List Section → List Left → Between → Type 0 where
  no_sections : {number : ℕ} {here : Between} → PlaysSections script number here [] [] here
  next_section : {number : ℕ} {old last : Between} {section : Section} {rest : List Section} {left : Left} {lefts : List Left} (new : Between) → PlaysSection script number section old left new → PlaysSections script (number + 1) new rest lefts last → PlaysSections script number old (section ∷ rest) (left ∷ lefts) last

-- the book has the steps of a script: each log is what its actor noted in the sections, one after another, and each
-- trail is what the sections left at its centre, one after another; so no entry of a section stands before one of an
-- earlier section
pub record HasSectionSteps (script : Script) (b : Book) : Type 0 where
  pub lefts : List Left
  pub last : Between
  pub plays : PlaysSections script 1 (first_between script) script.sections lefts last
  pub notes : (a : ℕ) → IsCount (actors_of script) a → notes_of b a ≡ flat_map (λ left. left.notes a) lefts
  pub trails : (i : ℕ) → IsCount script.n i → trail_of b i ≡ flat_map (λ left. left.entries i) lefts

-- the book is a run of the script section by section, with threads in its phases: it is one of its centres, fits its
-- setup, and has its steps
pub record IsSectionRunOf (script : Script) (b : Book) : Type 0 where
  pub n : b.n ≡ script.n
  pub k : b.k ≡ script.k
  pub fits : FitsWith b (setup_of script)
  pub steps : HasSectionSteps script b

-- no section of the script is a phase
abbrev pub HasNoPhase : Script → Type 0
HasNoPhase script = All (λ section. section.phase ≡ false) script.sections
