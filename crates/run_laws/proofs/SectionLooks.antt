-- The looks of a run section by section see shows of their centres, in the order of the shows.
use Rattle.std.proofs.Common.{◌≡◌, ℕ, zero, suc, ◌+◌, ⊎_elim, List, [], ◌∷◌, refl, sym, ap, ◌∙◌, subst, arith}
use Rattle.std.proofs.lemmas.Option.{none-some, same_Some}
use Rattle.list_core.specs.Members.{In}
use Rattle.list_core.proofs.Members.{All-In, In_either}
use Rattle.dc_talk.specs.declared.log.Note.{Note}
use Rattle.script_core.specs.declared.script.Script.{Script}
use Rattle.script_core.specs.declared.steps.Section.{Section}
use Rattle.script_core.specs.declared.taps.Show.{Show}
use Rattle.script_core.specs.Scripts.{IsInRange}
use Rattle.script_core.specs.Steps.{IsCount}
use Rattle.script_core.specs.Taps.{objects_on}
use Rattle.print_text.specs.Text.{notes_in}
use Rattle.run_book.specs.declared.book.Book.{Book}
use Rattle.run_book.specs.Moves.{operator_steps}
use Rattle.run_book.specs.Parts.{notes_of}
use Rattle.run_book.specs.Played.{IsAt}
use Rattle.run_sections.specs.Orders.{InOrder, none_left, one_first, OperatorGoes}
use Rattle.run_sections.specs.Taps.{shows_behind, LooksAlong}
use Rattle.run_sections.specs.Sections.{Between, first_between, Left}
use Rattle.run_sections.specs.Runs.{PlaysSections, no_sections, next_section, HasSectionSteps}
use Rattle.run_sections.proofs.Actors.{client_acts}
use Rattle.run_sections.proofs.Lookers.{Grow, sections_along}
use Rattle.run_laws.specs.Looks.{shows_before, ShowsTaps}
use Rattle.run_laws.proofs.Looking.{AreInTurn, notes_there, before_next}
use Rattle.run_laws.proofs.LookSteps.{plain_tells}

-- ---- the numbers of sections

-- what is done in a section is noted there
pub order_at : {S M : Type 0} (Does : S → ℕ → M → List Note → S → Type 0) (section step : ℕ) (s last : S) (ms : List M) (notes : List Note) → InOrder Does section step s ms notes last → (note : Note) → In note notes → note.section ≡ section
order_at Does section step s last [] notes none_left note there = absurd there
order_at Does section step s last (m ∷ ms) notes (one_first next mine later whole at does rest) note there = ⊎_elim
    (λ front. (All-In (IsAt section step) mine note at front).section_is)
    (λ back. order_at Does section (step + 1) next last ms later rest note back)
    (In_either mine later note (subst (In note) whole there))

-- so are the operator's notes
operator_turn : (script : Script) (number : ℕ) (here last : Between) (sections : List Section) (lefts : List Left) → PlaysSections script number here sections lefts last → AreInTurn 1 number lefts
operator_turn script number here last [] lefts no_sections k it at note among = absurd (none-some it at)
operator_turn script number here last (section ∷ rest) lefts (next_section {left = left} {lefts = more} new plays later) zero it at note among =
    let same : left ≡ it = same_Some left it at in
    let mine : In note (left.notes 1) = subst (λ (left : Left). In note (left.notes 1)) (sym same) among in
    let is : note.section ≡ number = order_at (OperatorGoes script.n) number 1 tt tt (operator_steps section) (left.notes 1) plays.operator note mine in
    omega (arith, is)
operator_turn script number here last (section ∷ rest) lefts (next_section {left = left} {lefts = more} new plays later) (suc k) it at note among =
    let is : note.section ≡ number + 1 + k = operator_turn script (number + 1) new last rest more later k it at note among in
    omega (arith, is)

-- ---- the book

module _ (script : Script) (b : Book) (range : IsInRange script) (steps : HasSectionSteps script b) where
  -- the shows grow by what the operator left in each section
  grow : (client : ℕ) (there : IsCount script.clients client) → Grow script client there (shows_before script b) plain_tells 1 script.sections steps.lefts
  grow client there k section left at from i =
      let own : notes_in (1 + k) (notes_of b 1) ≡ left.notes 1 = ap (notes_in (1 + k)) (steps.notes 1 (omega arith, omega arith)) ∙ notes_there 1 1 steps.lefts (operator_turn script 1 (first_between script) steps.last script.sections steps.lefts steps.plays) k left from in
      ap (λ (shows : ℕ → List Show). shows i) (before_next script b k section at) ∙ ap (λ ns. shows_behind ns 1 (operator_steps section) (shows_before script b (1 + k)) i) own

  -- each look sees a show
  pub section_looks : ShowsTaps script b
  section_looks = record { looks = looks }
    where
      looks : (client : ℕ) → IsCount script.clients client → LooksAlong (objects_on script.taps) (shows_before script b) client (λ centre. 0) (notes_of b (client + 1))
      looks client there = subst (LooksAlong (objects_on script.taps) (shows_before script b) client (λ centre. 0)) (sym (steps.notes (client + 1) (client_acts script client there)))
          (sections_along script client there (shows_before script b) plain_tells 1 (first_between script) steps.last script.sections steps.lefts (λ i. []) (λ centre. 0) range.sections steps.plays (grow client there)
          (record { own = λ i centre. refl; here = λ i centre. refl })
          (λ i centre. omega arith))
