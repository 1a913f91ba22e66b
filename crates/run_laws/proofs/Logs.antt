-- The logs of two runs tell the same, and so do their texts.
use Rattle.std.proofs.Common.{◌≡◌, ℕ, suc, ◌+◌, ◌*◌, ◌<◌, List, [], ◌∷◌, ◌++◌, length, map, get_or, refl, sym, ap, ◌∙◌, arith}
use Rattle.std.specs.Prelude.{flat_map}
use Rattle.std.specs.List.{range_with_len}
use Rattle.std.proofs.lemmas.List.{map-append}
use Rattle.vv_core.specs.Vectors.{most}
use Rattle.dc_talk.specs.declared.log.Note.{Note}
use Rattle.dc_talk.specs.Logs.{Logged}
use Rattle.script_core.specs.declared.script.Script.{Script}
use Rattle.run_book.specs.declared.book.Book.{Book}
use Rattle.run_book.specs.Parts.{idle_log}
use Rattle.print_text.specs.Text.{section_text, operator_last, last_section, lines_in, text_of}
use Rattle.run_laws.specs.OneBook.{told_log}
use Rattle.run_forks.proofs.Books.{AreRuns, same_notes}

-- lists whose elements give the same at each place
same_images : {X Y : Type 0} (f : X → Y) (d : X) (xs ys : List X) → length xs ≡ length ys → ((k : ℕ) → k < length xs → f (get_or xs k d) ≡ f (get_or ys k d)) → map f xs ≡ map f ys
same_images f d [] [] long each = refl
same_images f d [] (y ∷ ys) long each = absurd (omega (arith, long))
same_images f d (x ∷ xs) [] long each = absurd (omega (arith, long))
same_images f d (x ∷ xs) (y ∷ ys) long each =
    let head = each 0 (omega arith) in
    let tail = same_images f d xs ys (omega (arith, long)) (λ k lt. each (suc k) (omega arith)) in
    λ i. head i ∷ tail i

-- the logs of two runs of a script tell the same
pub same_logs : (script : Script) (b c : Book) → AreRuns script b c → map told_log b.logs ≡ map told_log c.logs
same_logs script b c runs =
    let count = runs.one.form.logs in
    let long : length b.logs ≡ length c.logs = count ∙ (ap (λ n. 1 + script.clients + 4 * n) (runs.n ∙ sym runs.also_n) ∙ sym runs.two.form.logs) in
    same_images told_log (idle_log 0) b.logs c.logs long (λ k lt.
    let first = runs.one.form.actors (suc k) (omega arith) (omega (arith, lt)) in
    let later = runs.two.form.actors (suc k) (omega arith) (omega (arith, lt, long)) in
    let notes = same_notes script b c runs (suc k) in
    λ i. record { actor = (first ∙ sym later) i; section = 0; step = 0; notes = notes i })

-- ---- texts

-- what logs give by their notes, they give however far they have come
flat_told : {A : Type 0} (f : List Note → List A) (logs : List Logged) → flat_map (λ (log : Logged). f log.notes) (map told_log logs) ≡ flat_map (λ (log : Logged). f log.notes) logs
flat_told f [] = refl
flat_told f (log ∷ logs) = ap (λ rest. f log.notes ++ rest) (flat_told f logs)

-- the operator's log goes behind the others, however far they have come
told_last : (logs : List Logged) → operator_last (map told_log logs) ≡ map told_log (operator_last logs)
told_last [] = refl
told_last (operator ∷ others) = sym (map-append told_log others (operator ∷ []))

-- the text of logs is that of what they tell
text_told : (logs : List Logged) → text_of (map told_log logs) ≡ text_of logs
text_told logs =
    let last : last_section (map told_log logs) ≡ last_section logs = ap (λ notes. most (map (λ (note : Note). note.section) notes)) (flat_told (λ notes. notes) logs) in
    let lines : (section : ℕ) → lines_in (operator_last (map told_log logs)) section ≡ lines_in (operator_last logs) section = λ section. ap (λ all. lines_in all section) (told_last logs) ∙ flat_told (section_text section) (operator_last logs) in
    λ i. flat_map (λ section. lines section i) (range_with_len 1 (last i))

-- logs that tell the same have the same text
pub same_texts : (b c : List Logged) → map told_log b ≡ map told_log c → text_of b ≡ text_of c
same_texts b c same = sym (text_told b) ∙ (ap text_of same ∙ text_told c)
