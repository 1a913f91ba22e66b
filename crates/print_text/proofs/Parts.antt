-- The texts of sections as lines are added, and all of them one behind the other.
use Rattle.std.specs.Prelude.{◌≡◌, ◌≢◌, ◌≤◌, ◌<◌, ◌⊎◌, ◌==◌, ℕ, suc, ◌+◌, ◌-◌, max, Bool, true, false, cond, List, [], ◌∷◌, ◌++◌, map, flat_map, refl, slice_index_or}
use Rattle.std.specs.List.{range_with_len}
use Rattle.std.specs.Global.{Vec}
use Rattle.std.specs.Prelude.{slice_set, take}
use Rattle.std.proofs.Common.{inl, inr, ⊎_elim, sym, ap, ◌∙◌, subst, append_assoc, append-nil, length, get_or, arith, add-one}
use Rattle.std.proofs.lemmas.Bool.{cases_lt, ne_eqb, eq-eqb}
use Rattle.std.proofs.Math.ListN.{get_or-append}
use Rattle.std.proofs.lemmas.Grind.{flat_map-append}
use Rattle.std.proofs.lemmas.List.{map-append, map-set, length-set, length-map, length-append, get_or-set_same, get_or-set_other}
use Rattle.std.proofs.Math.Seq.{take-suc, get_or-append_seam}
use Rattle.vv_core.specs.Vectors.{most}
use Rattle.dc_talk.specs.declared.log.Note.{Note}
use Rattle.dc_talk.specs.Logs.{Logged}
use Rattle.print_text.specs.Text.{told_text, notes_in, notes_text, section_text, lines_in, operator_last, last_section, text_of}
use Rattle.print_text.specs.Parts.{part, HasEmptyParts, Adds, texts_in}

-- the greatest of two lists
pub most-append : (xs ys : List ℕ) → most (xs ++ ys) ≡ max (most xs) (most ys)
most-append [] ys = omega arith
most-append (x ∷ xs) ys = ap (max x) (most-append xs ys) ∙ omega arith

-- the greatest with one more
pub most_more : (xs : List ℕ) (x : ℕ) → most (xs ++ x ∷ []) ≡ max (most xs) x
most_more xs x = most-append xs (x ∷ []) ∙ omega arith

-- the first elements with one more
pub take_more : {X : Type 0} (xs : List X) (index : ℕ) (x : X) → index < length xs → x ≡ get_or xs index x → take (index + 1) xs ≡ take index xs ++ x ∷ []
take_more xs index x lt is = ap (λ n. take n xs) (add-one index) ∙ (take-suc xs index x lt ∙ ap (λ y. take index xs ++ y ∷ []) (sym is))

-- the greatest section of the first notes, with one more
pub greatest_more : (notes : List Note) (index last : ℕ) (note : Note) → index < length notes → note ≡ get_or notes index note → last ≡ most (map (λ (note : Note). note.section) (take index notes)) → max last note.section ≡ most (map (λ (note : Note). note.section) (take (index + 1) notes))
greatest_more notes index last note lt is before =
    ap (λ n. max n note.section) before
    ∙ (sym (most_more (map (λ (note : Note). note.section) (take index notes)) note.section)
    ∙ ap most (sym (map-append (λ (note : Note). note.section) (take index notes) (note ∷ [])) ∙ ap (map (λ (note : Note). note.section)) (sym (take_more notes index note lt is))))

-- the greatest section of the first logs, with one more
pub last_more : (logs : List Logged) (index last greatest : ℕ) (log : Logged) → index < length logs → log ≡ get_or logs index log → last ≡ last_section (take index logs) → greatest ≡ most (map (λ (note : Note). note.section) log.notes) → max last greatest ≡ last_section (take (index + 1) logs)
last_more logs index last greatest log lt is before own =
    ap (λ n. max n greatest) before
    ∙ (ap (max (last_section (take index logs))) own
    ∙ (sym (most-append (map (λ (note : Note). note.section) (flat_map (λ (log : Logged). log.notes) (take index logs))) (map (λ (note : Note). note.section) log.notes))
    ∙ ap most (sym (map-append (λ (note : Note). note.section) (flat_map (λ (log : Logged). log.notes) (take index logs)) log.notes)
    ∙ ap (map (λ (note : Note). note.section)) (ap (λ notes. flat_map (λ (log : Logged). log.notes) (take index logs) ++ notes) (sym (append-nil log.notes))
    ∙ (sym (flat_map-append (λ (log : Logged). log.notes) (take index logs) (log ∷ [])) ∙ ap (flat_map (λ (log : Logged). log.notes)) (sym (take_more logs index log lt is)))))))

-- no part without a line
pub empty_first : (parts : List (Vec ℕ)) → length parts ≡ 0 → HasEmptyParts 0 parts
empty_first parts none = record { count = none; empty = λ section low high. absurd (omega (arith, low, high)) }

-- one more part without a line
pub empty_more : (sections : ℕ) (parts : List (Vec ℕ)) (text : Vec ℕ) → text.items ≡ [] → HasEmptyParts sections parts → HasEmptyParts (sections + 1) (parts ++ text ∷ [])
empty_more sections parts text none h = record {
  count = length-append parts (text ∷ []) ∙ ap (λ n. n + 1) h.count;
  empty = λ section low high.
      ap (λ texts. get_or texts (section - 1) []) (map-append (λ (text : Vec ℕ). text.items) parts (text ∷ []))
      ∙ ⊎_elim (λ lt. front section lt ∙ h.empty section low (omega (arith, lt))) (λ ge. last section (omega (arith, ge, high, low))) (cases_lt (section - 1) sections);
}
  where
    texts : List (List ℕ)
    texts = map (λ (text : Vec ℕ). text.items) parts

    front : (section : ℕ) → section - 1 < sections → get_or (texts ++ text.items ∷ []) (section - 1) [] ≡ get_or texts (section - 1) []
    front section lt = get_or-append texts (text.items ∷ []) [] (section - 1) (let n = length-map parts (λ (text : Vec ℕ). text.items) in omega (arith, lt, n, h.count))

    last : (section : ℕ) → section - 1 ≡ sections → get_or (texts ++ text.items ∷ []) (section - 1) [] ≡ []
    last section is =
        let n = length-map parts (λ (text : Vec ℕ). text.items) in
        ap (λ i. get_or (texts ++ text.items ∷ []) i []) (let at : section - 1 ≡ length texts = omega (arith, is, n, h.count) in at) ∙ (get_or-append_seam texts text.items [] [] ∙ none)

-- nothing is added
pub adds_nothing : (text : ℕ → List ℕ) (parts : List (Vec ℕ)) → ((section : ℕ) → text section ≡ []) → Adds text parts parts
adds_nothing text parts none = record {
  count = refl;
  each = λ section low high. sym (append-nil (part parts section)) ∙ ap (λ more. part parts section ++ more) (sym (none section));
}

-- a text is added, and then another
pub adds_then : (first second both : ℕ → List ℕ) (old mid new : List (Vec ℕ)) → Adds first old mid → Adds second mid new → ((section : ℕ) → both section ≡ first section ++ second section) → Adds both old new
adds_then first second both old mid new one other is = record {
  count = other.count ∙ one.count;
  each = λ section low high.
      other.each section low (omega (arith, high, one.count))
      ∙ (ap (λ text. text ++ second section) (one.each section low high)
      ∙ (append_assoc (part old section) (first section) (second section)
      ∙ ap (λ more. part old section ++ more) (sym (is section))));
}

-- the lines of notes and of those behind them
pub section-append : (section : ℕ) (notes later : List Note) → section_text section (notes ++ later) ≡ section_text section notes ++ section_text section later
section-append section [] later = refl
section-append section (note ∷ notes) later = go (note.section == section) (section-append section notes later)
  where
    go : (test : Bool) → section_text section (notes ++ later) ≡ section_text section notes ++ section_text section later → notes_text (cond test (note ∷ notes_in section (notes ++ later)) (notes_in section (notes ++ later))) ≡ notes_text (cond test (note ∷ notes_in section notes) (notes_in section notes)) ++ section_text section later
    go true rest = ap (λ lines. told_text note.deed ++ lines) rest ∙ sym (append_assoc (told_text note.deed) (section_text section notes) (section_text section later))
    go false rest = rest

-- the line of a note is added to its section
pub note_added : (parts : List (Vec ℕ)) (note : Note) (text : Vec ℕ) → 1 ≤ note.section → note.section ≤ length parts → text.items ≡ part parts note.section ++ told_text note.deed → Adds (λ section. section_text section (note ∷ [])) parts (slice_set parts (note.section - 1) text)
note_added parts note text low high written = record {
  count = length-set parts (note.section - 1) text;
  each = λ section least most.
      ap (λ texts. get_or texts (section - 1) []) (map-set (λ (text : Vec ℕ). text.items) parts (note.section - 1) text)
      ∙ at section least (same_or_not section);
}
  where
    texts : List (List ℕ)
    texts = map (λ (text : Vec ℕ). text.items) parts

    same_or_not : (section : ℕ) → (note.section ≡ section) ⊎ (note.section ≢ section)
    same_or_not section = ⊎_elim (λ lt. inr (λ e. omega (arith, lt, e))) (λ ge. ⊎_elim (λ lt. inr (λ e. omega (arith, lt, e))) (λ le. inl (omega (arith, ge, le))) (cases_lt section note.section)) (cases_lt note.section section)

    own : (section : ℕ) → note.section ≡ section → get_or (slice_set texts (note.section - 1) text.items) (section - 1) [] ≡ get_or texts (section - 1) [] ++ section_text section (note ∷ [])
    own section same =
        subst (λ s. get_or (slice_set texts (note.section - 1) text.items) (s - 1) [] ≡ get_or texts (s - 1) [] ++ section_text s (note ∷ [])) same
        (get_or-set_same texts (note.section - 1) text.items [] (let n = length-map parts (λ (text : Vec ℕ). text.items) in omega (arith, n, low, high))
        ∙ (written ∙ ap (λ more. part parts note.section ++ more) (sym (ap (λ test. notes_text (cond test (note ∷ []) [])) (eq-eqb note.section note.section refl) ∙ append-nil (told_text note.deed)))))

    at : (section : ℕ) → 1 ≤ section → (note.section ≡ section) ⊎ (note.section ≢ section) → get_or (slice_set texts (note.section - 1) text.items) (section - 1) [] ≡ get_or texts (section - 1) [] ++ section_text section (note ∷ [])
    at section least (inl same) = own section same
    at section least (inr other) =
        get_or-set_other texts (note.section - 1) (section - 1) text.items [] (λ e. other (omega (arith, e, low, least)))
        ∙ (sym (append-nil (get_or texts (section - 1) [])) ∙ ap (λ more. get_or texts (section - 1) [] ++ more) (sym (ap (λ test. notes_text (cond test (note ∷ []) [])) (ne_eqb note.section section other))))

-- no part is the note's
pub note_elsewhere : (parts : List (Vec ℕ)) (note : Note) → ((1 ≤ note.section) → note.section ≤ length parts → ⊥) → Adds (λ section. section_text section (note ∷ [])) parts parts
note_elsewhere parts note out = record {
  count = refl;
  each = λ section low high. sym (append-nil (part parts section)) ∙ ap (λ more. part parts section ++ more) (sym (ap (λ test. notes_text (cond test (note ∷ []) [])) (ne_eqb note.section section (λ same. out (omega (arith, same, low)) (omega (arith, same, high))))));
}

-- the lines of the first notes, with those of one more
pub notes_more : (notes : List Note) (index : ℕ) (note : Note) (old mid new : List (Vec ℕ)) → index < length notes → note ≡ get_or notes index note → Adds (λ section. section_text section (take index notes)) old mid → Adds (λ section. section_text section (note ∷ [])) mid new → Adds (λ section. section_text section (take (index + 1) notes)) old new
notes_more notes index note old mid new lt is before more =
    adds_then (λ section. section_text section (take index notes)) (λ section. section_text section (note ∷ [])) (λ section. section_text section (take (index + 1) notes)) old mid new before more
    (λ section. ap (section_text section) (take_more notes index note lt is) ∙ section-append section (take index notes) (note ∷ []))

-- the lines of the first logs, with those of one more
pub logs_more : (logs : List Logged) (index : ℕ) (log : Logged) (old mid new : List (Vec ℕ)) → index < length logs → log ≡ get_or logs index log → Adds (lines_in (take index logs)) old mid → Adds (λ section. section_text section log.notes) mid new → Adds (lines_in (take (index + 1) logs)) old new
logs_more logs index log old mid new lt is before more =
    adds_then (lines_in (take index logs)) (λ section. section_text section log.notes) (lines_in (take (index + 1) logs)) old mid new before more
    (λ section. ap (λ logs. lines_in logs section) (take_more logs index log lt is)
    ∙ (flat_map-append (λ (log : Logged). section_text section log.notes) (take index logs) (log ∷ [])
    ∙ ap (λ lines. lines_in (take index logs) section ++ lines) (append-nil (section_text section log.notes))))

-- all parts, one behind the other, are the texts of the sections
pub texts_of_parts : (text : ℕ → List ℕ) (first : ℕ) (parts : List (Vec ℕ)) → ((at : ℕ) → at < length parts → slice_index_or (map (λ (text : Vec ℕ). text.items) parts) at [] ≡ text (first + at)) → texts_in parts ≡ flat_map text (range_with_len first (length parts))
texts_of_parts text first [] each = refl
texts_of_parts text first (p ∷ parts) each =
    let here : p.items ≡ text first = each 0 (omega arith) ∙ ap text (omega arith) in
    ap (λ lines. lines ++ texts_in parts) here
    ∙ ap (λ lines. text first ++ lines) (texts_of_parts text (first + 1) parts (λ at lt. each (suc at) (omega (arith, lt)) ∙ ap text (omega arith)))

-- the text of logs, where each part has the lines of its section in them
pub texts_of_logs : (logs : List Logged) (sections : ℕ) (old new : List (Vec ℕ)) → sections ≡ last_section logs → HasEmptyParts sections old → Adds (lines_in (operator_last logs)) old new → texts_in new ≡ text_of logs
texts_of_logs logs sections old new is empty adds =
    texts_of_parts (lines_in (operator_last logs)) 1 new (λ at lt.
    ap (λ i. get_or (map (λ (text : Vec ℕ). text.items) new) i []) (let same : at ≡ 1 + at - 1 = omega arith in same)
    ∙ (adds.each (1 + at) (omega arith) (omega (arith, lt, adds.count))
    ∙ ap (λ lines. lines ++ lines_in (operator_last logs) (1 + at)) (empty.empty (1 + at) (omega arith) (omega (arith, lt, adds.count, empty.count)))))
    ∙ ap (λ n. flat_map (lines_in (operator_last logs)) (range_with_len 1 n)) (adds.count ∙ (empty.count ∙ is))
