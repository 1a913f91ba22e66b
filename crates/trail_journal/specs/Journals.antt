-- The journals of the centres of a book, and the lines that tell of them.
use Rattle.std.specs.Prelude.{◌≡◌, ◌≤◌, ℕ, ◌+◌, List, [], ◌∷◌, ◌++◌, length}
use Rattle.ids_core.specs.declared.limits.TheConstants.{MOST_CENTRES, MOST_RECORDS}
use Rattle.dc_talk.specs.declared.settings.Settings.{Settings}
use Rattle.dc_talk.specs.Answers.{History}
use Rattle.dc_talk.specs.Entries.{Entry}
use Rattle.run_book.specs.declared.book.Book.{Book}
use Rattle.run_book.specs.Parts.{trail_of}
use Rattle.trail_journal.specs.Files.{IsJust}
use Rattle.trail_journal.specs.Told.{told_of, journal_line}

-- the settings of a centre of a book, where each centre stamps at most so many transactions
abbrev pub centre_of : Book → ℕ → ℕ → Settings
centre_of b limit i = record { me = i; n = b.n; k = b.k; limit = limit }

-- the numbers of a book are in range, and there is a trail for each centre, which is a history of it
pub record HasHistories (b : Book) (limit : ℕ) : Type 0 where
  pub n : (1 ≤ b.n) × (b.n ≤ MOST_CENTRES)
  pub k : (1 ≤ b.k) × (b.k ≤ b.n)
  pub limit_range : (1 ≤ limit) × (limit ≤ MOST_RECORDS)
  pub trails : length b.trails ≡ b.n
  pub histories : (i : ℕ) → 1 ≤ i → i ≤ b.n → History (centre_of b limit i) (trail_of b i)

-- of the trails of the centres from number i on: each has a file that is just its journal, and a line that tells of both,
-- in order
abbrev pub AreJournals : (ℕ → Settings) → ℕ → List (List Entry) → List (List ℕ) → List ℕ → Type 0
AreJournals settings i [] [] text = text ≡ []
AreJournals settings i (trail ∷ trails) (file ∷ files) text = (IsJust (settings i) trail file) × ((lines : List ℕ) × ((text ≡ journal_line (told_of (settings i) trail file) ++ lines) × AreJournals settings (i + 1) trails files lines))
AreJournals settings i _ _ text = ⊥

-- the same of all trails of a book
abbrev pub AreJournalsOf : Book → ℕ → List ℕ → List (List ℕ) → Type 0
AreJournalsOf b limit text files = AreJournals (centre_of b limit) 1 b.trails files text
