-- The shows that the feeds of sections add, one section after another.
use Rattle.std.proofs.Common.{◌≡◌, ℕ, zero, suc, ◌+◌, ◌≤◌, ⊎_elim, List, [], ◌∷◌, ◌++◌, take, refl, sym, ap, ◌∙◌, subst, arith}
use Rattle.std.specs.Prelude.{◌==◌, flat_map}
use Rattle.std.proofs.lemmas.Bool.{eq-eqb, ne_eqb}
use Rattle.std.proofs.lemmas.List.{append-nil, map-append}
use Rattle.std.proofs.lemmas.List.Elements.{filter-append}
use Rattle.list_core.specs.Members.{In}
use Rattle.list_core.proofs.Members.{In_either, filter_all, filter_none}
use Rattle.ids_core.specs.declared.object.ObjectId.{ObjectId}
use Rattle.dc_talk.specs.declared.log.Note.{Note}
use Rattle.script_core.specs.declared.script.Script.{Script}
use Rattle.script_core.specs.declared.steps.Section.{Section}
use Rattle.script_core.specs.declared.taps.Show.{Show}
use Rattle.script_core.specs.declared.taps.TapState.{TapState}
use Rattle.script_core.specs.Steps.{IsCount}
use Rattle.print_text.specs.Text.{notes_in}
use Rattle.run_book.specs.declared.book.Book.{Book}
use Rattle.run_book.specs.Moves.{operator_steps}
use Rattle.run_book.specs.Parts.{notes_of}
use Rattle.run_sections.specs.Orders.{deeds_of, InOrder}
use Rattle.run_sections.specs.Taps.{shows_at, FeedGoes, shows_behind}
use Rattle.run_sections.specs.Sections.{Between, Left}
use Rattle.run_sections.specs.Runs.{PlaysSections, no_sections, next_section}
use Rattle.run_sections.proofs.ShowsBehind.{objects_stay}
use Rattle.run_laws.specs.Looks.{shows_next, shows_through}
use Rattle.run_laws.proofs.SectionLooks.{order_at}
use Rattle.book_shows.proofs.Feeds.{Adds, adds_none, adds_both, order_adds}

-- ---- the notes of sections

-- notes of the operator, section by section: in each of them it feeds taps in the order of its steps, and the tap of centre i
-- has these objects
pub data AreFed (i : ℕ) (objects : List ObjectId) : ℕ → List Section → List Note → Type 0 where
  none_fed : {number : ℕ} → AreFed i objects number [] []
  next_fed : {number : ℕ} {section : Section} {rest : List Section} {notes : List Note} (taps : ℕ → TapState) (first last : ℕ → List Show) (mine later : List Note) → notes ≡ mine ++ later → (taps i).objects ≡ objects → InOrder (FeedGoes taps) number 1 first (operator_steps section) mine last → AreFed i objects (number + 1) rest later → AreFed i objects number (section ∷ rest) notes

-- those of a section and of later ones
module _ (number : ℕ) (notes mine later : List Note) (whole : notes ≡ mine ++ later) (here : (note : Note) → In note mine → note.section ≡ number) (behind : (note : Note) → In note later → number + 1 ≤ note.section) where
  first_in : notes_in number notes ≡ mine
  first_in =
      let own : notes_in number mine ≡ mine = filter_all (λ (note : Note). note.section == number) mine (λ note there. eq-eqb note.section number (here note there)) in
      let none : notes_in number later ≡ [] = filter_none (λ (note : Note). note.section == number) later (λ note there. ne_eqb note.section number (λ same. (let low = behind note there in omega (arith, low, same)))) in
      ap (notes_in number) whole ∙ (filter-append (λ (note : Note). note.section == number) mine later ∙ ((λ i. own i ++ none i) ∙ append-nil mine))

  later_in : (at : ℕ) → number + 1 ≤ at → notes_in at notes ≡ notes_in at later
  later_in at past =
      let none : notes_in at mine ≡ [] = filter_none (λ (note : Note). note.section == at) mine (λ note there. ne_eqb note.section at (λ same. (let is = here note there in omega (arith, past, is, same)))) in
      ap (notes_in at) whole ∙ (filter-append (λ (note : Note). note.section == at) mine later ∙ ap (λ ns. ns ++ notes_in at later) none)

-- notes from a section on stand there or later
fed_low : (i : ℕ) (objects : List ObjectId) (number : ℕ) (sections : List Section) (notes : List Note) → AreFed i objects number sections notes → (note : Note) → In note notes → number ≤ note.section
fed_low i objects number [] notes none_fed note there = absurd there
fed_low i objects number (section ∷ rest) notes (next_fed taps first last mine later whole same order fed) note there = ⊎_elim
    (λ front. let is : note.section ≡ number = order_at (FeedGoes taps) number 1 first last (operator_steps section) mine order note front in omega (arith, is))
    (λ back. let low = fed_low i objects (number + 1) rest later fed note back in omega (arith, low))
    (In_either mine later note (subst (In note) whole there))

-- two lists of notes that agree from a section on
abbrev pub AgreeIn : ℕ → List Note → List Note → Type 0
AgreeIn number whole notes = (at : ℕ) → number ≤ at → notes_in at whole ≡ notes_in at notes

-- ---- the shows

-- the first of these sections add the shows behind them
pub fed_adds : (b : Book) (i : ℕ) (objects : List ObjectId) (number m : ℕ) (sections : List Section) (notes : List Note) (shows : ℕ → List Show) → AgreeIn number (notes_of b 1) notes → AreFed i objects number sections notes → Adds i objects (shows i) (shows_through b number (take m sections) shows i) (deeds_of notes)
fed_adds b i objects number zero sections notes shows agree fed = adds_none i objects (shows i) (deeds_of notes)
fed_adds b i objects number (suc m) [] notes shows agree none_fed = adds_none i objects (shows i) []
fed_adds b i objects number (suc m) (section ∷ rest) notes shows agree (next_fed taps first last mine later whole same order fed) =
    let here : (note : Note) → In note mine → note.section ≡ number = order_at (FeedGoes taps) number 1 first last (operator_steps section) mine order in
    let behind : (note : Note) → In note later → number + 1 ≤ note.section = fed_low i objects (number + 1) rest later fed in
    let noted : notes_in number (notes_of b 1) ≡ mine = agree number (omega arith) ∙ first_in number notes mine later whole here behind in
    let next : ℕ → List Show = shows_next b number section shows in
    let end : List Show = shows_through b (number + 1) (take m rest) next i in
    let front : Adds i (taps i).objects (shows i) (shows_behind mine 1 (operator_steps section) shows i) (deeds_of mine) = order_adds taps i number 1 first last shows (operator_steps section) mine mine (λ at low. refl) order in
    let one : Adds i objects (shows i) (next i) (deeds_of mine) = subst (λ (ns : List Note). Adds i objects (shows i) (shows_behind ns 1 (operator_steps section) shows i) (deeds_of mine)) (sym noted) (subst (λ (os : List ObjectId). Adds i os (shows i) (shows_behind mine 1 (operator_steps section) shows i) (deeds_of mine)) same front) in
    let two : Adds i objects (next i) end (deeds_of later) = fed_adds b i objects (number + 1) m rest later next (λ at past. agree at (omega (arith, past)) ∙ later_in number notes mine later whole here behind at past) fed in
    subst (Adds i objects (shows i) end) (sym (ap deeds_of whole ∙ map-append (λ (note : Note). note.deed) mine later)) (adds_both i objects (shows i) (next i) end (deeds_of mine) (deeds_of later) one two)

-- ---- a run section by section

-- the notes of its operator are such
pub sections_fed : (script : Script) (i : ℕ) → IsCount script.n i → (objects : List ObjectId) (number : ℕ) (here last : Between) (sections : List Section) (lefts : List Left) → (here.taps i).objects ≡ objects → PlaysSections script number here sections lefts last → AreFed i objects number sections (flat_map (λ (left : Left). left.notes 1) lefts)
sections_fed script i range objects number here last [] lefts same no_sections = none_fed
sections_fed script i range objects number here last (section ∷ rest) lefts same (next_section {left = left} {lefts = more} new plays later) =
    let kept : (new.taps i).objects ≡ objects = ap (λ (tap : TapState). tap.objects) (plays.taps.behind i range) ∙ (objects_stay (here.taps i) (plays.taps.shows i) ∙ same) in
    next_fed here.taps (shows_at here.taps) plays.taps.shows (left.notes 1) (flat_map (λ (left : Left). left.notes 1) more) refl same plays.taps.feeds (sections_fed script i range objects (number + 1) new last rest more kept later)
