-- The journals of some centres with that of the next.
use Rattle.std.proofs.Common.{◌≡◌, ◌<◌, ◌+◌, ℕ, List, [], ◌∷◌, ◌++◌, map, length, take, refl, sym, ◌∙◌, ap, subst, append_assoc, add-one, arith}
use Rattle.std.proofs.lemmas.List.{append-nil, map-append, take_more, length-take-le}
use Rattle.journal_disk.specs.declared.steady.SteadyDisk.{SteadyDisk}
use Rattle.journal_disk.specs.Steady.{steady_bytes}
use Rattle.dc_talk.specs.declared.settings.Settings.{Settings}
use Rattle.dc_talk.specs.Entries.{Entry}
use Rattle.run_book.specs.declared.book.Book.{Book}
use Rattle.run_book.specs.Parts.{trail_of}
use Rattle.trail_journal.specs.declared.told.Told.{Told}
use Rattle.trail_journal.specs.Files.{IsJust}
use Rattle.trail_journal.specs.Told.{told_of, journal_line}
use Rattle.trail_journal.specs.Journals.{AreJournals, centre_of}

-- one journal more behind some
pub journals_more : (settings : ℕ → Settings) (i k : ℕ) (trails : List (List Entry)) (files : List (List ℕ)) (text : List ℕ) (trail : List Entry) (file : List ℕ) → k ≡ i + length trails → AreJournals settings i trails files text → IsJust (settings k) trail file
    → AreJournals settings i (trails ++ trail ∷ []) (files ++ file ∷ []) (text ++ journal_line (told_of (settings k) trail file))
journals_more settings i k [] [] text trail file is none just =
    let here : k ≡ i = omega (arith, is) in
    let line : ℕ → List ℕ = λ n. journal_line (told_of (settings n) trail file) in
    (subst (λ n. IsJust (settings n) trail file) here just, ([], (ap (λ (t : List ℕ). t ++ line k) none ∙ ap line here ∙ sym (append-nil (line i)), refl)))
journals_more settings i k [] (f ∷ files) text trail file is all just = absurd all
journals_more settings i k (t ∷ trails) [] text trail file is all just = absurd all
journals_more settings i k (t ∷ trails) (f ∷ files) text trail file is all just =
    let line : List ℕ = journal_line (told_of (settings k) trail file) in
    let first : List ℕ = journal_line (told_of (settings i) t f) in
    (all.0, (all.1.0 ++ line, (ap (λ (l : List ℕ). l ++ line) all.1.1.0 ∙ append_assoc first all.1.0 line, journals_more settings (i + 1) k trails files all.1.0 trail file (omega (arith, is)) all.1.1.1 just)))

-- the trails of the centres up to the next
pub trail_next : (b : Book) (k : ℕ) → k < length b.trails → take (k + 1) b.trails ≡ take k b.trails ++ trail_of b (k + 1) ∷ []
trail_next b k within = take_more b.trails k [] within ∙ ap (λ (t : List Entry). take k b.trails ++ t ∷ []) (sym (ap (trail_of b) (add-one k)))

-- the journal of the next centre of a book behind those of the centres before it
pub journals_next : (b : Book) (limit k : ℕ) (old new : List SteadyDisk) (disk : SteadyDisk) (text now : List ℕ) (told : Told) → k < length b.trails
    → AreJournals (centre_of b limit) 1 (take k b.trails) (map steady_bytes old) text
    → IsJust (centre_of b limit (k + 1)) (trail_of b (k + 1)) (steady_bytes disk)
    → told ≡ told_of (centre_of b limit (k + 1)) (trail_of b (k + 1)) (steady_bytes disk)
    → now ≡ text ++ journal_line told → new ≡ old ++ disk ∷ []
    → AreJournals (centre_of b limit) 1 (take (k + 1) b.trails) (map steady_bytes new) now
journals_next b limit k old new disk text now told within first just told_is now_is new_is =
    let s = centre_of b limit in
    let trail : List Entry = trail_of b (k + 1) in
    let file : List ℕ = steady_bytes disk in
    let line : List ℕ = journal_line (told_of (s (k + 1)) trail file) in
    let long : length (take k b.trails) ≡ k = length-take-le k b.trails (omega (arith, within)) in
    let here : k + 1 ≡ 1 + length (take k b.trails) = omega (arith, long) in
    let more : AreJournals s 1 (take k b.trails ++ trail ∷ []) (map steady_bytes old ++ file ∷ []) (text ++ line) = journals_more s 1 (k + 1) (take k b.trails) (map steady_bytes old) text trail file here first just in
    let files_are : map steady_bytes old ++ file ∷ [] ≡ map steady_bytes new = sym (map-append steady_bytes old (disk ∷ [])) ∙ ap (λ (l : List SteadyDisk). map steady_bytes l) (sym new_is) in
    let text_is : text ++ line ≡ now = ap (λ (t : Told). text ++ journal_line t) (sym told_is) ∙ sym now_is in
    subst (λ (l : List (List Entry)). AreJournals s 1 l (map steady_bytes new) now) (sym (trail_next b k within))
    (subst (λ (l : List (List ℕ)). AreJournals s 1 (take k b.trails ++ trail ∷ []) l now) files_are
    (subst (λ (l : List ℕ). AreJournals s 1 (take k b.trails ++ trail ∷ []) (map steady_bytes old ++ file ∷ []) l) text_is more))
