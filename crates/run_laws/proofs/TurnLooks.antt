-- The looks of a run on one thread show the last shows in front of their steps.
use Rattle.std.proofs.Common.{◌≡◌, ℕ, zero, suc, ◌+◌, ◌-◌, List, [], ◌∷◌, ◌++◌, take, Some, refl, sym, ap, ◌∙◌, subst, arith}
use Rattle.std.specs.Prelude.{All, flat_map, slice_get}
use Rattle.std.proofs.lemmas.List.Elements.{All-head, All-tail, filter_map-append}
use Rattle.std.proofs.lemmas.Option.{none-some, same_Some}
use Rattle.list_core.specs.Members.{In}
use Rattle.list_core.proofs.Gets.{In_get, get_In}
use Rattle.list_core.proofs.Members.{In_from_flat_map}
use Rattle.list_core.proofs.Passing.{In_from_filter_map}
use Rattle.ids_core.specs.declared.object.ObjectId.{ObjectId}
use Rattle.dc_talk.specs.declared.log.Deed.TheVariants.{Told}
use Rattle.dc_talk.specs.declared.log.Note.{Note}
use Rattle.dc_talk.specs.declared.line.Line.TheVariants as line
use Rattle.dc_talk.specs.declared.seen.Seen.{Seen}
use Rattle.script_core.specs.declared.script.Script.{Script}
use Rattle.script_core.specs.declared.steps.Section.{Section}
use Rattle.script_core.specs.declared.taps.Show.{Show}
use Rattle.script_core.specs.declared.taps.TapState.{TapState}
use Rattle.script_core.specs.Rows.{IsSection}
use Rattle.script_core.specs.Scripts.{header_of, IsInRange}
use Rattle.script_core.specs.Steps.{IsCount}
use Rattle.script_core.specs.Taps.{first_tap, seen_through}
use Rattle.print_text.specs.Text.{notes_in}
use Rattle.run_book.specs.declared.book.Book.{Book}
use Rattle.run_book.specs.Happenings.{Happened, note_by, notes_by, trail_in}
use Rattle.run_book.specs.Moves.{operator_steps, moves_from}
use Rattle.run_book.specs.Parts.{notes_of}
use Rattle.run_book.specs.Played.{Stage, first_stage, Plays, no_moves}
use Rattle.run_book.specs.Scripted.{HasSteps}
use Rattle.run_book.proofs.Happenings.Entries.{note_made}
use Rattle.run_sections.specs.Orders.{deeds_of}
use Rattle.run_sections.specs.Taps.{shows_at, tap_behind, shows_behind}
use Rattle.run_sections.specs.Sections.{Left}
use Rattle.run_sections.proofs.InTurn.{deed_holds}
use Rattle.run_sections.proofs.Reaching.{client_sound}
use Rattle.run_sections.proofs.Turns.{tap_at, Looked, section_played}
use Rattle.run_laws.specs.Looks.{shows_next, shows_through, orders_in, shows_by, ShowsLast}
use Rattle.run_laws.proofs.Looking.{AreInTurn, notes_there}
use Rattle.run_laws.proofs.LookSteps.{Sees, step_sees}

-- ---- sections

-- the taps of a script at first
abbrev taps_first : Script → ℕ → TapState
taps_first script = first_tap script.n script.taps

-- a section was played by turns, with these shows where it began: its notes stand in it, and each note of a client stands by
-- the taps in front of its step
record IsTurned (script : Script) (number : ℕ) (section : Section) (shows : ℕ → List Show) (left : Left) : Type 0 where
  sound : IsSection (header_of script) section
  client_at : (client : ℕ) → IsCount script.clients client → (note : Note) → In note (left.notes (client + 1)) → note.section ≡ number
  operator_at : (note : Note) → In note (left.notes 1) → note.section ≡ number
  sees : (client : ℕ) → IsCount script.clients client → (note : Note) → In note (left.notes (client + 1)) → Looked script number section sound (taps_first script) shows (left.notes 1) client note

-- sections one after another, counted from a number on
data AreTurned (script : Script) : ℕ → (ℕ → List Show) → List Section → List Left → Type 0 where
  none_turned : {number : ℕ} {shows : ℕ → List Show} → AreTurned script number shows [] []
  next_turned : {number : ℕ} {shows : ℕ → List Show} {section : Section} {rest : List Section} {left : Left} {lefts : List Left} → IsTurned script number section shows left → AreTurned script (number + 1) (shows_behind (left.notes 1) 1 (operator_steps section) shows) rest lefts → AreTurned script number shows (section ∷ rest) (left ∷ lefts)

-- their notes stand in the sections of their numbers
operator_turn : (script : Script) (number : ℕ) (shows : ℕ → List Show) (sections : List Section) (lefts : List Left) → AreTurned script number shows sections lefts → AreInTurn 1 number lefts
operator_turn script number shows [] lefts none_turned k it at note among = absurd (none-some it at)
operator_turn script number shows (section ∷ rest) lefts (next_turned {left = left} {lefts = more} done later) zero it at note among =
    let same : left ≡ it = same_Some left it at in
    let is : note.section ≡ number = done.operator_at note (subst (λ (left : Left). In note (left.notes 1)) (sym same) among) in
    omega (arith, is)
operator_turn script number shows (section ∷ rest) lefts (next_turned {left = left} {lefts = more} done later) (suc k) it at note among =
    let is : note.section ≡ number + 1 + k = operator_turn script (number + 1) (shows_behind (left.notes 1) 1 (operator_steps section) shows) rest more later k it at note among in
    omega (arith, is)

client_turn : (script : Script) (client : ℕ) → IsCount script.clients client → (number : ℕ) (shows : ℕ → List Show) (sections : List Section) (lefts : List Left) → AreTurned script number shows sections lefts → AreInTurn (client + 1) number lefts
client_turn script client range number shows [] lefts none_turned k it at note among = absurd (none-some it at)
client_turn script client range number shows (section ∷ rest) lefts (next_turned {left = left} {lefts = more} done later) zero it at note among =
    let same : left ≡ it = same_Some left it at in
    let is : note.section ≡ number = done.client_at client range note (subst (λ (left : Left). In note (left.notes (client + 1))) (sym same) among) in
    omega (arith, is)
client_turn script client range number shows (section ∷ rest) lefts (next_turned {left = left} {lefts = more} done later) (suc k) it at note among =
    let is : note.section ≡ number + 1 + k = client_turn script client range (number + 1) (shows_behind (left.notes 1) 1 (operator_steps section) shows) rest more later k it at note among in
    omega (arith, is)

-- ---- a section by its place

-- the section that stands at a place, as it was played
record IsTurnedAt (script : Script) (number k : ℕ) (sections : List Section) (shows : ℕ → List Show) (left : Left) : Type 0 where
  section : Section
  there : slice_get sections k ≡ Some section
  turned : IsTurned script number section shows left

turned_at : (script : Script) (b : Book) (number : ℕ) (shows : ℕ → List Show) (sections : List Section) (lefts : List Left) → ((k : ℕ) (left : Left) → slice_get lefts k ≡ Some left → notes_in (number + k) (notes_of b 1) ≡ left.notes 1) → AreTurned script number shows sections lefts → (k : ℕ) (left : Left) → slice_get lefts k ≡ Some left → IsTurnedAt script (number + k) k sections (shows_through b number (take k sections) shows) left
turned_at script b number shows [] lefts own none_turned k it at = absurd (none-some it at)
turned_at script b number shows (section ∷ rest) lefts own (next_turned {left = left} {lefts = more} done later) zero it at =
    let same : left ≡ it = same_Some left it at in
    let place : number ≡ number + 0 = omega arith in
    record {
      section = section;
      there = refl;
      turned = subst (λ m. IsTurned script m section shows it) place (subst (IsTurned script number section shows) same done);
    }
turned_at script b number shows (section ∷ rest) lefts own (next_turned {left = left} {lefts = more} done later) (suc k) it at =
    let first : notes_in number (notes_of b 1) ≡ left.notes 1 = (let place : number + 0 ≡ number = omega arith in subst (λ m. notes_in m (notes_of b 1) ≡ left.notes 1) place (own 0 left refl)) in
    let others : (m : ℕ) (other : Left) → slice_get more m ≡ Some other → notes_in (number + 1 + m) (notes_of b 1) ≡ other.notes 1 = λ m other among. (let place : number + suc m ≡ number + 1 + m = omega arith in subst (λ at. notes_in at (notes_of b 1) ≡ other.notes 1) place (own (suc m) other among)) in
    let next : ℕ → List Show = shows_behind (left.notes 1) 1 (operator_steps section) shows in
    let same : shows_through b (number + 1) (take k rest) next ≡ shows_through b (number + 1) (take k rest) (shows_next b number section shows) = ap (λ ns. shows_through b (number + 1) (take k rest) (shows_behind ns 1 (operator_steps section) shows)) (sym first) in
    let place : number + 1 + k ≡ number + suc k = omega arith in
    let r = turned_at script b (number + 1) next rest more others later k it at in
    record {
      section = r.section;
      there = r.there;
      turned = subst (λ m. IsTurned script m r.section (shows_through b (number + 1) (take k rest) (shows_next b number section shows)) it) place (subst (λ s. IsTurned script (number + 1 + k) r.section s it) same r.turned);
    }

-- ---- what was played

-- what was played in sections, by what each of them left
record IsParted (script : Script) (number : ℕ) (shows : ℕ → List Show) (sections : List Section) (all : List Happened) : Type 0 where
  lefts : List Left
  done : AreTurned script number shows sections lefts
  notes : (a : ℕ) → notes_by a all ≡ flat_map (λ (left : Left). left.notes a) lefts

parted : (script : Script) (number : ℕ) (stage : Stage) (shows : ℕ → List Show) (sections : List Section) (all : List Happened) → All (IsSection (header_of script)) sections → ((i : ℕ) → stage.taps i ≡ tap_behind (taps_first script i) (shows i)) → Plays script.n script.clients stage (moves_from script number sections) all → IsParted script number shows sections all
parted script number stage shows [] all sound same no_moves = record { lefts = []; done = none_turned; notes = λ a. refl }
parted script number stage shows (section ∷ rest) all sound same plays =
    let here = All-head (IsSection (header_of script)) section rest sound in
    let p = section_played script number section here (taps_first script) shows (moves_from script (number + 1) rest) stage all same plays in
    let left : Left = record { notes = λ a. notes_by a p.part; entries = λ i. trail_in i p.part } in
    let q = parted script (number + 1) p.mid (shows_behind (notes_by 1 p.part) 1 (operator_steps section) shows) rest p.later (All-tail (IsSection (header_of script)) section rest sound) p.fed p.rest in
    let one : IsTurned script number section shows left = record {
      sound = here;
      client_at = λ client range note there.
          let from = In_from_filter_map (note_by (client + 1)) p.part note there in
          subst (λ (note : Note). note.section ≡ number) (note_made (client + 1) from.0 note from.2).1 (p.at from.0 from.1);
      operator_at = λ note there.
          let from = In_from_filter_map (note_by 1) p.part note there in
          subst (λ (note : Note). note.section ≡ number) (note_made 1 from.0 note from.2).1 (p.at from.0 from.1);
      sees = λ client range note there.
          let from = In_from_filter_map (note_by (client + 1)) p.part note there in
          let made = note_made (client + 1) from.0 note from.2 in
          subst (λ (note : Note). Looked script number section here (taps_first script) shows (notes_by 1 p.part) client note) made.1 (p.sees client range from.0 from.1 made.0);
    } in
    record {
      lefts = left ∷ q.lefts;
      done = next_turned one q.done;
      notes = λ a. ap (notes_by a) p.whole ∙ (filter_map-append (note_by a) p.part p.later ∙ ap (λ l. notes_by a p.part ++ l) (q.notes a));
    }

-- ---- the book

module _ (script : Script) (b : Book) (range : IsInRange script) (steps : HasSteps script b) where
  p : IsParted script 1 (shows_at (taps_first script)) script.sections steps.all
  p = parted script 1 (first_stage script) (shows_at (taps_first script)) script.sections steps.all range.sections (λ i. refl) steps.plays

  own : (k : ℕ) (left : Left) → slice_get p.lefts k ≡ Some left → notes_in (1 + k) (notes_of b 1) ≡ left.notes 1
  own k left at = ap (notes_in (1 + k)) (steps.notes 1 ∙ p.notes 1) ∙ notes_there 1 1 p.lefts (operator_turn script 1 (shows_at (taps_first script)) script.sections p.lefts p.done) k left at

  -- each look shows the last show in front of its step
  pub turn_looks : ShowsLast script b
  turn_looks = record { shown = shown }
    where
      shown : (client place looker centre : ℕ) (object : ObjectId) (seen : Seen) (note : Note) → IsCount script.clients client → slice_get (notes_of b (client + 1)) place ≡ Some note → note.deed ≡ Told (line.Look looker centre object seen) → (looker ≡ client) × (seen_through (tap_behind (taps_first script centre) (shows_by script b note.section note.step centre)) object ≡ Some seen)
      shown client place looker centre object seen note there at tells =
          let among : In note (flat_map (λ (left : Left). left.notes (client + 1)) p.lefts) = subst (In note) (steps.notes (client + 1) ∙ p.notes (client + 1)) (get_In (notes_of b (client + 1)) place note at) in
          let from = In_from_flat_map (λ (left : Left). left.notes (client + 1)) p.lefts note among in
          let left = In_get p.lefts from.0 from.1 in
          let k = left.0 in
          let section : note.section ≡ 1 + k = client_turn script client there 1 (shows_at (taps_first script)) script.sections p.lefts p.done k from.0 left.1 note from.2 in
          let t = turned_at script b 1 (shows_at (taps_first script)) script.sections p.lefts own p.done k from.0 left.1 in
          let l = t.turned.sees client there note from.2 in
          let before : ℕ → List Show = shows_through b 1 (take k script.sections) (shows_at (taps_first script)) in
          let taps : ℕ → TapState = tap_at script (1 + k) t.section t.turned.sound (taps_first script) before (from.0.notes 1) note.step in
          let s = deed_holds (Sees script.n taps client) l.mine note (step_sees script.n taps client l.p l.does (deeds_of l.mine) (client_sound script t.section t.turned.sound client l.does l.is) l.goes l.looked) l.among looker centre object seen tells in
          let count : 1 + k - 1 ≡ k = omega arith in
          let stands : slice_get script.sections (1 + k - 1) ≡ Some t.section = ap (slice_get script.sections) count ∙ t.there in
          let notes : notes_in (1 + k) (notes_of b 1) ≡ from.0.notes 1 = own k from.0 left.1 in
          let same : shows_by script b note.section note.step centre ≡ shows_behind (from.0.notes 1) 1 (take (note.step - 1) (operator_steps t.section)) before centre =
          ap (λ m. shows_by script b m note.step centre) section
          ∙ (λ i. shows_behind (notes i) 1 (take (note.step - 1) (orders_in (stands i))) (shows_through b 1 (take (count i) script.sections) (shows_at (taps_first script))) centre) in
          (s.0, ap (λ l. seen_through (tap_behind (taps_first script centre) l) object) same ∙ s.2)
