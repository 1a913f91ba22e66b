-- The notes of an actor by sections, and the shows of a book as they grow by sections.
use Rattle.std.proofs.Common.{◌≡◌, ◌≢◌, ℕ, zero, suc, ◌+◌, ◌-◌, Bool, List, [], ◌∷◌, ◌++◌, take, Some, refl, sym, ap, ◌∙◌, subst, arith}
use Rattle.std.specs.Prelude.{◌==◌, filter, flat_map, slice_get}
use Rattle.std.proofs.lemmas.Bool.{eq-eqb, ne_eqb}
use Rattle.std.proofs.lemmas.List.{append-nil}
use Rattle.std.proofs.lemmas.List.Elements.{filter-append}
use Rattle.std.proofs.lemmas.Option.{none-some, same_Some}
use Rattle.list_core.specs.Members.{In}
use Rattle.list_core.proofs.Gets.{In_get}
use Rattle.list_core.proofs.Members.{In_from_flat_map, filter_all, filter_none}
use Rattle.dc_talk.specs.declared.log.Note.{Note}
use Rattle.script_core.specs.declared.script.Script.{Script}
use Rattle.script_core.specs.declared.steps.Section.{Section}
use Rattle.script_core.specs.declared.taps.Show.{Show}
use Rattle.script_core.specs.Taps.{first_tap}
use Rattle.print_text.specs.Text.{notes_in}
use Rattle.run_book.specs.declared.book.Book.{Book}
use Rattle.run_sections.specs.Taps.{shows_at}
use Rattle.run_sections.specs.Sections.{Left}
use Rattle.run_laws.specs.Looks.{shows_next, shows_through, shows_before}

-- ---- the numbers of sections

-- notes of an actor that stand in sections one after another, each in the section of its number
abbrev pub AreInTurn : ℕ → ℕ → List Left → Type 0
AreInTurn a number lefts = (k : ℕ) (left : Left) → slice_get lefts k ≡ Some left → (note : Note) → In note (left.notes a) → note.section ≡ number + k

-- those of later sections are none of this one's
later_none : (a number at : ℕ) (lefts : List Left) → AreInTurn a number lefts → ((k : ℕ) → number + k ≢ at) → notes_in at (flat_map (λ (left : Left). left.notes a) lefts) ≡ []
later_none a number at lefts turn none = filter_none (λ (note : Note). note.section == at) (flat_map (λ (left : Left). left.notes a) lefts) (λ note there.
    let from = In_from_flat_map (λ (left : Left). left.notes a) lefts note there in
    let place = In_get lefts from.0 from.1 in
    let is : note.section ≡ number + place.0 = turn place.0 from.0 place.1 note from.2 in
    ne_eqb note.section at (λ same. none place.0 (sym is ∙ same)))

-- the notes of a section among those of all
pub notes_there : (a number : ℕ) (lefts : List Left) → AreInTurn a number lefts → (k : ℕ) (left : Left) → slice_get lefts k ≡ Some left → notes_in (number + k) (flat_map (λ (left : Left). left.notes a) lefts) ≡ left.notes a
notes_there a number [] turn k it at = absurd (none-some it at)
notes_there a number (left ∷ more) turn zero it at =
    let same : left ≡ it = same_Some left it at in
    let test : Note → Bool = λ note. note.section == number + 0 in
    let behind : AreInTurn a (number + 1) more = λ k other there note among. (let is : note.section ≡ number + suc k = turn (suc k) other there note among in omega (arith, is)) in
    let first : filter test (left.notes a) ≡ left.notes a = filter_all test (left.notes a) (λ note there. eq-eqb note.section (number + 0) (turn 0 left refl note there)) in
    let rest : notes_in (number + 0) (flat_map (λ (left : Left). left.notes a) more) ≡ [] = later_none a (number + 1) (number + 0) more behind (λ k same. omega (arith, same)) in
    filter-append test (left.notes a) (flat_map (λ (left : Left). left.notes a) more)
    ∙ ((λ i. first i ++ rest i) ∙ (append-nil (left.notes a) ∙ ap (λ (left : Left). left.notes a) same))
notes_there a number (left ∷ more) turn (suc k) it at =
    let test : Note → Bool = λ note. note.section == number + suc k in
    let behind : AreInTurn a (number + 1) more = λ k other there note among. (let is : note.section ≡ number + suc k = turn (suc k) other there note among in omega (arith, is)) in
    let first : filter test (left.notes a) ≡ [] = filter_none test (left.notes a) (λ note there. ne_eqb note.section (number + suc k) (λ same. (let is : note.section ≡ number + 0 = turn 0 left refl note there in omega (arith, is, same)))) in
    let place : number + 1 + k ≡ number + suc k = omega arith in
    let rest : notes_in (number + suc k) (flat_map (λ (left : Left). left.notes a) more) ≡ it.notes a = subst (λ at. notes_in at (flat_map (λ (left : Left). left.notes a) more) ≡ it.notes a) place (notes_there a (number + 1) more behind k it at) in
    filter-append test (left.notes a) (flat_map (λ (left : Left). left.notes a) more) ∙ (λ i. first i ++ rest i)

-- ---- the shows of a book

-- the shows behind one section more
pub through_more : (b : Book) (number k : ℕ) (sections : List Section) (section : Section) (shows : ℕ → List Show) → slice_get sections k ≡ Some section → shows_through b number (take (k + 1) sections) shows ≡ shows_next b (number + k) section (shows_through b number (take k sections) shows)
through_more b number k [] section shows at = absurd (none-some section at)
through_more b number zero (one ∷ rest) section shows at =
    let same : one ≡ section = same_Some one section at in
    let place : number ≡ number + 0 = omega arith in
    λ i. shows_next b (place i) (same i) shows
through_more b number (suc k) (one ∷ rest) section shows at =
    let place : number + 1 + k ≡ number + suc k = omega arith in
    let first : suc k + 1 ≡ suc (k + 1) = omega arith in
    ap (λ m. shows_through b number (take m (one ∷ rest)) shows) first
    ∙ (through_more b (number + 1) k rest section (shows_next b number one shows) at
    ∙ ap (λ m. shows_next b m section (shows_through b (number + 1) (take k rest) (shows_next b number one shows))) place)

-- the shows behind a section are those before the next one
pub before_next : (script : Script) (b : Book) (k : ℕ) (section : Section) → slice_get script.sections k ≡ Some section → shows_before script b (1 + k + 1) ≡ shows_next b (1 + k) section (shows_before script b (1 + k))
before_next script b k section at =
    let first : ℕ → List Show = shows_at (first_tap script.n script.taps) in
    let behind : 1 + k + 1 - 1 ≡ k + 1 = omega arith in
    let here : k ≡ 1 + k - 1 = omega arith in
    ap (λ m. shows_through b 1 (take m script.sections) first) behind
    ∙ (through_more b 1 k script.sections section first at ∙ ap (λ m. shows_next b (1 + k) section (shows_through b 1 (take m script.sections) first)) here)
