-- The text of a book tells the values that its clients read.
use Rattle.std.proofs.Common.{◌≡◌, ◌≤◌, ◌<◌, ℕ, zero, suc, ◌+◌, ◌-◌, inl, inr, ⊎_elim, List, [], ◌∷◌, ◌++◌, length, map, Some, refl, sym, ap, ◌∙◌, subst, arith}
use Rattle.std.specs.Prelude.{◌==◌, Option, None, flat_map, slice_get, slice_index_or}
use Rattle.std.specs.Option.{option_map}
use Rattle.std.specs.List.{filter_map, cons_option, range_with_len}
use Rattle.std.proofs.lemmas.Bool.{eq-eqb}
use Rattle.std.proofs.lemmas.Grind.{flat_map-append}
use Rattle.std.proofs.lemmas.Option.{none-some, same_Some, slice_get-map}
use Rattle.list_core.specs.Members.{In}
use Rattle.list_core.proofs.Gets.{In_get, get_In, get_in_front}
use Rattle.list_core.proofs.Members.{All-In, In_either, In_filter, In_flat_map, In_from_filter, In_from_flat_map, In_from_map, In_left, In_map, In_right}
use Rattle.list_core.proofs.Passing.{In_filter_map, In_from_filter_map}
use Rattle.list_core.proofs.Ranges.{In_range}
use Rattle.ids_core.specs.declared.object.ObjectId.{ObjectId}
use Rattle.vv_core.proofs.Reaching.{In-most}
use Rattle.tx_core.specs.declared.state.Value.{Value}
use Rattle.dc_talk.specs.declared.calls.Call.TheVariants.{Read}
use Rattle.dc_talk.specs.declared.calls.Outcome.TheVariants.{Got}
use Rattle.dc_talk.specs.declared.line.Line.{Line}
use Rattle.dc_talk.specs.declared.line.Line.TheVariants.{ReadValue}
use Rattle.dc_talk.specs.declared.log.Deed.{Deed}
use Rattle.dc_talk.specs.declared.log.Deed.TheVariants.{Did, Asked, Told, Spoilt}
use Rattle.dc_talk.specs.declared.log.Note.{Note}
use Rattle.dc_talk.specs.Logs.{Logged}
use Rattle.print_text.specs.Text.{last_section, lines_in, notes_in, notes_text, operator_last, told_text, text_of}
use Rattle.script_core.specs.declared.script.Script.{Script}
use Rattle.run_book.specs.declared.book.Book.{Book}
use Rattle.run_book.specs.Causal.{Reads}
use Rattle.run_book.specs.Fit.{FitsWith}
use Rattle.run_book.specs.Parts.{idle_log, notes_of, IsClient}
use Rattle.run_book.specs.Setups.{Setup}
use Rattle.run_book.specs.Graphs.{basis_at}
use Rattle.run_book.specs.ReadValues.{read_in, read_of, object_read}
use Rattle.run_book.proofs.ReadBases.{told_stands}
use Rattle.run_sections.specs.Orders.{deeds_of}
use Rattle.run_steps.specs.Logs.{InSteps, AreStepDeeds}
use Rattle.run_steps.proofs.Places.{get_behind, get_deed, in_step}
use Rattle.run_laws.specs.ReadLines.{line_of, section_lines, lines_of, printed, value_told, value_due, HasRead, StandsBehind, IsNamedAsCell, ReadsCellsAlone, ReadsNoOther, TellsPart, TellsReads, TellsValues}
use Rattle.run_laws.proofs.ReadPlaces.{step_behind}
use Rattle.run_laws.proofs.RunLines.{IsTale}

-- ---- the text is made of its lines

-- what is joined of what is joined
joined_twice : {X Y Z : Type 0} (f : Y → List Z) (g : X → List Y) (xs : List X) → flat_map (λ x. flat_map f (g x)) xs ≡ flat_map f (flat_map g xs)
joined_twice f g [] = refl
joined_twice f g (x ∷ xs) = ap (λ rest. flat_map f (g x) ++ rest) (joined_twice f g xs) ∙ sym (flat_map-append f (g x) (flat_map g xs))

-- the text of notes
notes_printed : (notes : List Note) → notes_text notes ≡ flat_map printed (filter_map (λ (note : Note). line_of note.deed) notes)
notes_printed [] = refl
notes_printed (note ∷ notes) = go note.deed (notes_printed notes)
  where
    go : (deed : Deed) → notes_text notes ≡ flat_map printed (filter_map (λ (note : Note). line_of note.deed) notes) → told_text deed ++ notes_text notes ≡ flat_map printed (cons_option (line_of deed) (filter_map (λ (note : Note). line_of note.deed) notes))
    go (Told line) rest = ap (λ text. printed line ++ text) rest
    go (Did call outcome) rest = rest
    go (Asked centre ask fate) rest = rest
    go (Spoilt from item why) rest = rest

-- the text of a section
section_printed : (logs : List Logged) (section : ℕ) → lines_in logs section ≡ flat_map printed (section_lines logs section)
section_printed logs section =
    (λ i. flat_map (λ (log : Logged). notes_printed (notes_in section log.notes) i) logs)
    ∙ joined_twice printed (λ (log : Logged). filter_map (λ (note : Note). line_of note.deed) (notes_in section log.notes)) logs

-- the text of all logs
pub text_printed : (logs : List Logged) → text_of logs ≡ flat_map printed (lines_of logs)
text_printed logs =
    (λ i. flat_map (λ section. section_printed (operator_last logs) section i) (range_with_len 1 (last_section logs)))
    ∙ joined_twice printed (section_lines (operator_last logs)) (range_with_len 1 (last_section logs))

-- ---- whose lines they are

-- the operator's log stands behind the others, and so do its members
last_in : (logs : List Logged) (log : Logged) → In log logs → In log (operator_last logs)
last_in [] log there = absurd there
last_in (operator ∷ others) log (inl same) = In_right others (operator ∷ []) log (inl same)
last_in (operator ∷ others) log (inr there) = In_left others (operator ∷ []) log there

from_last : (logs : List Logged) (log : Logged) → In log (operator_last logs) → In log logs
from_last [] log there = absurd there
from_last (operator ∷ others) log there = ⊎_elim
    (λ other. inr other)
    (λ last. ⊎_elim (λ same. inl same) (λ none. absurd none) last)
    (In_either others (operator ∷ []) log there)

-- a member stands at a place
placed : {X : Type 0} (xs : List X) (x d : X) → In x xs → (k : ℕ) × (slice_index_or xs k d ≡ x)
placed [] x d there = absurd there
placed (y ∷ xs) x d (inl same) = (0, sym same)
placed (y ∷ xs) x d (inr there) = let rest = placed xs x d there in (suc rest.0, rest.1)

-- what stands at a place is a member
at_place : {X : Type 0} (xs : List X) (k : ℕ) (d : X) → k < length xs → In (slice_index_or xs k d) xs
at_place [] k d lt = absurd (omega (arith, lt))
at_place (x ∷ xs) zero d lt = inl refl
at_place (x ∷ xs) (suc k) d lt = inr (at_place xs k d (omega (arith, lt)))

-- a note of an actor
record IsNoted (b : Book) (line : Line) : Type 0 where
  actor : ℕ
  note : Note
  there : In note (notes_of b actor)
  tells : line_of note.deed ≡ Some line

-- a line of the text is told by a note of an actor
line_noted : (b : Book) (line : Line) → In line (lines_of b.logs) → IsNoted b line
line_noted b line there =
    let section = In_from_flat_map (section_lines (operator_last b.logs)) (range_with_len 1 (last_section b.logs)) line there in
    let log = In_from_flat_map (λ (log : Logged). filter_map (λ (note : Note). line_of note.deed) (notes_in section.0 log.notes)) (operator_last b.logs) line section.2 in
    let note = In_from_filter_map (λ (note : Note). line_of note.deed) (notes_in section.0 log.0.notes) line log.2 in
    let own = In_from_filter (λ (note : Note). note.section == section.0) log.0.notes note.0 note.1 in
    let place = placed b.logs log.0 (idle_log 0) (from_last b.logs log.0 log.1) in
    record { actor = suc place.0; note = note.0; there = subst (λ (log : Logged). In note.0 log.notes) (sym place.1) own.0; tells = note.2 }

-- a line that a note of an actor tells, of a section that is counted from 1, is one of the text
noted_line : (b : Book) (line : Line) (actor : ℕ) (note : Note) → actor ≤ length b.logs → In note (notes_of b actor) → 1 ≤ note.section → line_of note.deed ≡ Some line → In line (lines_of b.logs)
noted_line b line zero note within there low tells = absurd there
noted_line b line (suc k) note within there low tells =
    let log : Logged = slice_index_or b.logs k (idle_log 0) in
    let among : In log b.logs = at_place b.logs k (idle_log 0) (omega (arith, within)) in
    let all : In note (flat_map (λ (log : Logged). log.notes) b.logs) = In_flat_map (λ (log : Logged). log.notes) b.logs log note among there in
    let high : note.section ≤ last_section b.logs = In-most (map (λ (note : Note). note.section) (flat_map (λ (log : Logged). log.notes) b.logs)) note.section (In_map (λ (note : Note). note.section) (flat_map (λ (log : Logged). log.notes) b.logs) note all) in
    let own : In note (notes_in note.section log.notes) = In_filter (λ (other : Note). other.section == note.section) log.notes note there (eq-eqb note.section note.section refl) in
    let told : In line (filter_map (λ (note : Note). line_of note.deed) (notes_in note.section log.notes)) = In_filter_map (λ (note : Note). line_of note.deed) (notes_in note.section log.notes) note line own tells in
    In_flat_map (section_lines (operator_last b.logs)) (range_with_len 1 (last_section b.logs)) note.section line
    (In_range 1 (last_section b.logs) note.section low (omega (arith, high)))
    (In_flat_map (λ (log : Logged). filter_map (λ (note : Note). line_of note.deed) (notes_in note.section log.notes)) (operator_last b.logs) log line (last_in b.logs log among) told)

-- ---- lines with values

-- a line with a value that a deed tells is told as one
value_line : (deed : Deed) (client : ℕ) (object : ObjectId) (value : Value) → line_of deed ≡ Some (ReadValue client object value) → value_told deed ≡ Some (ReadValue client object value)
value_line (Told line) client object value is = ap (λ (line : Line). value_told (Told line)) (same_Some line (ReadValue client object value) is)
value_line (Did call outcome) client object value is = absurd (none-some (ReadValue client object value) is)
value_line (Asked centre ask fate) client object value is = absurd (none-some (ReadValue client object value) is)
value_line (Spoilt from item why) client object value is = absurd (none-some (ReadValue client object value) is)

-- and what is told as one is a line
told_line : (deed : Deed) (line : Line) → value_told deed ≡ Some line → line_of deed ≡ Some line
told_line (Told (ReadValue client object value)) line is = is
told_line (Told other) line is = absurd (none-some line is)
told_line (Did call outcome) line is = absurd (none-some line is)
told_line (Asked centre ask fate) line is = absurd (none-some line is)
told_line (Spoilt from item why) line is = absurd (none-some line is)

-- what is due is due for a read
record IsReadBy (c : ℕ) (deed : Deed) (client : ℕ) (object : ObjectId) (value : Value) : Type 0 where
  who : c ≡ client
  is : deed ≡ Did (Read object) (Got value)

read_by : (c : ℕ) (deed : Deed) (client : ℕ) (object : ObjectId) (value : Value) → value_due c deed ≡ Some (ReadValue client object value) → IsReadBy c deed client object value
read_by c (Did (Read o) (Got v)) client object value due =
    let same : ReadValue c o v ≡ ReadValue client object value = same_Some (ReadValue c o v) (ReadValue client object value) due in
    let who : c ≡ client = cc in
    let of_object : o ≡ object = cc in
    let got : v ≡ value = cc in
    record { who = who; is = λ i. Did (Read (of_object i)) (Got (got i)) }
read_by c deed client object value due = absurd (none-some (ReadValue client object value) due)

-- ---- parts of a log

-- notes of a log that are a part of it, with one of them
record IsPart (client : ℕ) (notes mine : List Note) (note : Note) : Type 0 where
  all : (other : Note) → In other mine → In other notes
  among : In note.deed (deeds_of mine)
  tells : TellsPart client (deeds_of mine)

-- a note of a log in parts stands in one of them
in_part : (client : ℕ) (notes : List Note) (note : Note) → InSteps (TellsPart client) notes → In note notes → (mine : List Note) × IsPart client notes mine note
in_part client notes note parts there =
    let place = In_get notes note there in
    let part = in_step (TellsPart client) notes place.0 note parts place.1 in (
      part.mine,
      record {
        all = λ other i. subst (In other) (sym part.whole) (In_right part.before (part.mine ++ part.later) other (In_left part.mine part.later other i));
        among = In_map (λ (note : Note). note.deed) part.mine note (get_In part.mine part.place note part.there);
        tells = part.such;
      },
    )

-- a note of a log with such a deed
record HasNote (notes : List Note) (P : Deed → Type 0) : Type 0 where
  note : Note
  there : In note notes
  such : P note.deed

-- a deed of a part is that of a note of the log
deed_noted : (client : ℕ) (notes mine : List Note) (note : Note) (P : Deed → Type 0) (deed : Deed) → IsPart client notes mine note → In deed (deeds_of mine) → P deed → HasNote notes P
deed_noted client notes mine note P deed part there such =
    let from = In_from_map (λ (note : Note). note.deed) mine deed there in
    record { note = from.0; there = part.all from.0 from.1; such = subst P from.2 such }

module _ (client : ℕ) (notes mine : List Note) (note : Note) (part : IsPart client notes mine note) (line : Line) where
  -- where it tells a value, the line with it is due for a deed
  told_due : value_told note.deed ≡ Some line → HasNote notes (λ deed. value_due client deed ≡ Some line)
  told_due tells = ⊎_elim due none part.tells
    where
      told : In line (filter_map value_told (deeds_of mine))
      told = In_filter_map value_told (deeds_of mine) note.deed line part.among tells

      due : TellsReads client (deeds_of mine) → HasNote notes (λ deed. value_due client deed ≡ Some line)
      due same =
          let from = In_from_filter_map (value_due client) (deeds_of mine) line (subst (In line) same told) in
          deed_noted client notes mine note (λ deed. value_due client deed ≡ Some line) from.0 part from.1 from.2

      none : ReadsCellsAlone (deeds_of mine) → HasNote notes (λ deed. value_due client deed ≡ Some line)
      none cells = absurd (subst (In line) cells.silent told)

  -- where a line with a value is due for it, and it may read no cell, a deed tells it
  due_told : value_due client note.deed ≡ Some line → (ReadsNoOther note.deed → ⊥) → HasNote notes (λ deed. value_told deed ≡ Some line)
  due_told due other = ⊎_elim tells none part.tells
    where
      among : In line (filter_map (value_due client) (deeds_of mine))
      among = In_filter_map (value_due client) (deeds_of mine) note.deed line part.among due

      tells : TellsReads client (deeds_of mine) → HasNote notes (λ deed. value_told deed ≡ Some line)
      tells same =
          let from = In_from_filter_map value_told (deeds_of mine) line (subst (In line) (sym same) among) in
          deed_noted client notes mine note (λ deed. value_told deed ≡ Some line) from.0 part from.1 from.2

      none : ReadsCellsAlone (deeds_of mine) → HasNote notes (λ deed. value_told deed ≡ Some line)
      none cells = absurd (other (All-In ReadsNoOther (deeds_of mine) note.deed cells.cells part.among))

-- the note of a deed that stands at a place
note_at : (notes : List Note) (p : ℕ) (deed : Deed) → slice_get (deeds_of notes) p ≡ Some deed → (note : Note) × (slice_get notes p ≡ Some note) × (note.deed ≡ deed)
note_at notes p deed at = go (slice_get notes p) refl (sym (slice_get-map (λ (note : Note). note.deed) notes p) ∙ at)
  where
    go : (found : Option Note) → slice_get notes p ≡ found → option_map (λ (note : Note). note.deed) found ≡ Some deed → (note : Note) × (slice_get notes p ≡ Some note) × (note.deed ≡ deed)
    go None is none = absurd (none-some deed none)
    go (Some note) is same = (note, is, same_Some note.deed deed same)

-- ---- the book

module _ (b : Book) (setup : Setup) (fits : FitsWith b setup) (tales : (a : ℕ) → IsTale a (notes_of b a)) where
  -- an actor has a read of a client
  record HasReadOf (a client : ℕ) (object : ObjectId) (value : Value) : Type 0 where
    place : ℕ
    reads : Reads b setup (record { actor = a; place = place; object = object; value = value })
    who : a ≡ client + 1

  -- an actor that notes a line with a value has the read
  noted_read : (a : ℕ) (note : Note) (client : ℕ) (object : ObjectId) (value : Value) → In note (notes_of b a) → value_told note.deed ≡ Some (ReadValue client object value) → HasReadOf a client object value
  noted_read a note client object value there tells =
      let part = in_part (a - 1) (notes_of b a) note (tales a).told there in
      let due = told_due (a - 1) (notes_of b a) part.0 note part.1 (ReadValue client object value) tells in
      let by = read_by (a - 1) due.note.deed client object value due.such in
      let place = In_get (notes_of b a) due.note due.there in
      let is_client : IsClient setup a = fits.form.calls a place.0 due.note (Read object) (Got value) place.1 by.is in
      record {
        place = place.0;
        reads = record { client = is_client; note = due.note; there = place.1; deed_is = by.is };
        who = omega (arith, by.who, is_client.low);
      }

  -- a line with a value is of a read
  of_read : (client : ℕ) (object : ObjectId) (value : Value) → In (ReadValue client object value) (lines_of b.logs) → HasRead b setup client object value
  of_read client object value there =
      let noted = line_noted b (ReadValue client object value) there in
      let r = noted_read noted.actor noted.note client object value noted.there (value_line noted.note.deed client object value noted.tells) in
      record { place = r.place; read = subst (λ a. Reads b setup (record { actor = a; place = r.place; object = object; value = value })) r.who r.reads }

  -- a read has its line, where it is of no cell
  has_line : (client : ℕ) (object : ObjectId) (value : Value) → (IsNamedAsCell object → ⊥) → HasRead b setup client object value → In (ReadValue client object value) (lines_of b.logs)
  has_line client object value other has =
      let line : Line = ReadValue client object value in
      let a : ℕ = client + 1 in
      let read = has.read in
      let who : a - 1 ≡ client = omega arith in
      let due : value_due (a - 1) read.note.deed ≡ Some line = ap (value_due (a - 1)) read.deed_is ∙ ap (λ c. Some (ReadValue c object value)) who in
      let part = in_part (a - 1) (notes_of b a) read.note (tales a).told (get_In (notes_of b a) has.place read.note read.there) in
      let told = due_told (a - 1) (notes_of b a) part.0 read.note part.1 line due (λ cell. other (subst ReadsNoOther read.deed_is cell)) in
      let within : a ≤ length b.logs = omega (arith, read.client.high, fits.form.logs) in
      noted_line b line a told.note within told.there ((tales a).low told.note told.there) (told_line told.note.deed line told.such)

  -- a line with a value stands right behind its read
  module _ (script : Script) (chains : (a : ℕ) → IsClient setup a → InSteps (AreStepDeeds script (a - 1)) (notes_of b a)) where
    stands_behind : (a p client : ℕ) (object : ObjectId) (value : Value) (note : Note) → slice_get (notes_of b a) p ≡ Some note → note.deed ≡ Told (ReadValue client object value) → StandsBehind b setup a p object value
    stands_behind a p client object value note at is =
        let line : Line = ReadValue client object value in
        let has = noted_read a note client object value (get_In (notes_of b a) p note at) (ap value_told is) in
        let step = in_step (AreStepDeeds script (a - 1)) (notes_of b a) p note (chains a has.reads.client) at in
        let told : slice_get (deeds_of step.mine) step.place ≡ Some (Told line) = get_deed step.mine step.place note step.there ∙ ap Some is in
        let behind = step_behind step.such.come step.such.does (deeds_of step.mine) step.such.such step.place client object value told in
        let read = note_at step.mine behind.before (Did (Read object) (Got value)) behind.there in
        let before : ℕ = length step.before + behind.before in
        let next : p ≡ before + 1 = omega (arith, step.upto, behind.next) in
        let there : slice_get (notes_of b a) before ≡ Some read.0 = ap (λ l. slice_get l before) step.whole
        ∙ (get_behind step.before (step.mine ++ step.later) behind.before ∙ get_in_front step.mine step.later behind.before read.0 read.1) in
        let found : object_read b a before ≡ Some object = ap read_of there ∙ ap read_in read.2 in
        record {
          before = before;
          next = next;
          read = record { client = has.reads.client; note = read.0; there = there; deed_is = read.2 };
          stands = ap (basis_at b setup a) next ∙ told_stands b setup a before object found;
        }

pub book_tells : (b : Book) (setup : Setup) (script : Script) → FitsWith b setup → ((a : ℕ) → IsTale a (notes_of b a)) → ((a : ℕ) → IsClient setup a → InSteps (AreStepDeeds script (a - 1)) (notes_of b a)) → TellsValues b setup
book_tells b setup script fits tales chains = record {
  text = text_printed b.logs;
  read = of_read b setup fits tales;
  told = has_line b setup fits tales;
  each = λ actor. (tales actor).told;
  behind = stands_behind b setup fits tales script chains;
}
