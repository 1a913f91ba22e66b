-- Two runs of a script have one text of their journals.
use Rattle.std.proofs.Common.{◌≡◌, ◌+◌, ℕ, suc, List, [], ◌∷◌, ◌++◌, map, length, sym, ap, ◌∙◌, subst, length-append, arith}
use Rattle.dc_talk.specs.declared.ask.Ask.{Ask}
use Rattle.dc_talk.specs.declared.settings.Settings.{Settings}
use Rattle.dc_talk.specs.Entries.{Entry}
use Rattle.dc_talk.specs.Records.{vector}
use Rattle.dc_talk.specs.Trails.{applied}
use Rattle.trail_kept.specs.Kept.{kept}
use Rattle.script_core.specs.declared.script.Script.{Script}
use Rattle.run_book.specs.declared.book.Book.{Book}
use Rattle.run_forks.proofs.Books.{AreRuns, same_trails}
use Rattle.journal_file.specs.Journal.{Entries}
use Rattle.journal_asks.specs.declared.kept_ask.KeptAsk.{KeptAsk}
use Rattle.journal_asks.specs.Asks.{spelled}
use Rattle.journal_asks.specs.Spellings.{ask_bytes}
use Rattle.dc_journal.specs.Asks.{asked, due}
use Rattle.trail_journal.specs.Files.{IsJust}
use Rattle.trail_journal.specs.Told.{journal_line}
use Rattle.trail_journal.specs.Journals.{AreJournals, AreJournalsOf, centre_of}

-- how many bytes the entries of asks have
abbrev asks_long : List (ℕ × Ask) → ℕ
asks_long [] = 0
asks_long (a ∷ rest) = suc (length (ask_bytes a.0 a.1)) + asks_long rest

entries_long : (xs : List KeptAsk) (bytes : List ℕ) → Entries spelled xs bytes → length bytes ≡ asks_long (map asked xs)
entries_long [] bytes none = ap length none
entries_long (x ∷ xs) bytes (gate, (rest, (unshut, (is, more)))) = omega (arith, ap length is, length-append (spelled x) rest, entries_long xs rest more)

-- and how many the journal of a trail
just_long : (s : Settings) (trail : List Entry) (file : List ℕ) → IsJust s trail file → length file ≡ asks_long (map (due s.me) (kept trail)) + 1
just_long s trail file just = omega (arith, ap length just.file_is, length-append just.front (0 ∷ []), entries_long just.items just.front just.entries, ap asks_long just.asks)

-- the line of a journal of so many bytes, of centre i among n
abbrev line_by : ℕ → List Entry → ℕ → ℕ → List ℕ
line_by i trail n long = journal_line (record { centre = i; entries = length (kept trail); bytes = long; vector = vector n (applied n trail) })

module _ (b c : Book) (limit : ℕ) (n : b.n ≡ c.n) where
  -- the lines of the journals of the same trails
  journals_alike : (i : ℕ) (trails : List (List Entry)) (files others : List (List ℕ)) (text also : List ℕ) → AreJournals (centre_of b limit) i trails files text → AreJournals (centre_of c limit) i trails others also → text ≡ also
  journals_alike i [] [] [] text also is too = is ∙ sym too
  journals_alike i [] (f ∷ files) others text also is too = absurd is
  journals_alike i [] [] (g ∷ others) text also is too = absurd too
  journals_alike i (t ∷ trails) [] others text also is too = absurd is
  journals_alike i (t ∷ trails) (f ∷ files) [] text also is too = absurd too
  journals_alike i (t ∷ trails) (f ∷ files) (g ∷ others) text also is too =
      let long : length f ≡ length g = just_long (centre_of b limit i) t f is.0 ∙ sym (just_long (centre_of c limit i) t g too.0) in
      let lines : is.1.0 ≡ too.1.0 = journals_alike (i + 1) trails files others is.1.0 too.1.0 is.1.1.1 too.1.1.1 in
      is.1.1.0 ∙ (λ j. line_by i t (n j) (long j) ++ lines j) ∙ sym too.1.1.0

-- two runs of a script have one text of their journals
pub same_journal_texts : (script : Script) (b c : Book) (files others : List (List ℕ)) (text also : List ℕ) → AreRuns script b c → AreJournalsOf b script.limit text files → AreJournalsOf c script.limit also others → text ≡ also
same_journal_texts script b c files others text also runs is too =
    journals_alike b c script.limit (runs.n ∙ sym runs.also_n) 1 b.trails files others text also is
    (subst (λ (trails : List (List Entry)). AreJournals (centre_of c script.limit) 1 trails others also) (sym (same_trails script b c runs)) too)
