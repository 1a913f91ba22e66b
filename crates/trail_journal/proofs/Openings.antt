-- The disk of a centre with a journal is opened again.
use Rattle.std.proofs.Common.{◌≡◌, inl, inr, ℕ, true, List, Result, Ok, Err, IfOk, IfErr, refl, sym, subst}
use Rattle.journal_disk.specs.declared.disk.Disk.{Ghosts}
use Rattle.journal_disk.specs.declared.disk.Moment.{Moment}
use Rattle.journal_disk.specs.Disk.{seen, is_sound, Ran}
use Rattle.journal_disk.proofs.Histories.{ran_weaker}
use Rattle.journal_file.specs.declared.journal.Unopened.{Unopened}
use Rattle.journal_file.specs.Faults.{IsBad}
use Rattle.journal_file.proofs.Items.{at_file}
use Rattle.dc_talk.specs.declared.settings.Settings.{Settings}
use Rattle.dc_talk.specs.Entries.{Entry}
use Rattle.dc_talk.specs.Answers.{History}
use Rattle.journal_asks.specs.Asks.{spelled}
use Rattle.dc_journal.specs.declared.journal_centre.JournalCentre.{JournalCentre}
use Rattle.dc_journal.specs.Files.{IsFileOf, IsFound}
use Rattle.dc_journal.specs.Open.{settings_of, disk_of, end_of, IsJournalOf}
use Rattle.dc_journal.proofs.Keeping.{between}

module _ {D : Type 0} {disk : Ghosts D} (old : JournalCentre D disk) (s : Settings) (same : settings_of old ≡ s) where
  module _ (h : List Moment) (trail : List Entry) (is : IsJournalOf old h trail) where
    -- its trail is a history under these settings
    history_there : History s trail
    history_there = subst (λ (g : Settings). History g trail) same is.history

    -- and its disk has the file of the trail
    file_there : IsFileOf s trail (seen h)
    file_there = subst (λ (g : Settings). IsFileOf g trail (seen h)) same (is.items, (is.asks, at_file spelled (end_of old) h is.items (seen h) is.file refl))

    -- and so it has where a crash left it as it was
    found_there : (c : List ℕ) → IsFound s trail h c → IsFileOf s trail c
    found_there c (inl left) = subst (λ (g : Settings). IsFileOf g trail c) same (between old h trail c is left)
    found_there c (inr file) = file

  module _ (d : D) (part : d ≡ disk_of old) (honest : D → Type 0) (stands : D → List Moment → Type 0) where
    -- what the one that is opened stands for
    pub opened_again : {E : Type 0} (r : Result (JournalCentre D disk) E)
        → IfOk r (λ j. (h : List Moment) (trail : List Entry) → honest (disk_of j) → stands d h → is_sound h ≡ true → History s trail → IsFileOf s trail (seen h) → Ran (stands (disk_of j)) h (IsFound s trail h) (λ later. IsJournalOf j later trail))
        → IfOk r (λ j. (h : List Moment) (trail : List Entry) → honest (disk_of j) → stands (disk_of old) h → IsJournalOf old h trail → Ran (stands (disk_of j)) h (IsFileOf s trail) (λ later. IsJournalOf j later trail))
    opened_again (Ok j) opens = λ h trail true_reads stood is.
        ran_weaker (stands (disk_of j)) h (IsFound s trail h) (IsFileOf s trail) (λ later. IsJournalOf j later trail) (λ later. IsJournalOf j later trail) (found_there h trail is) (λ l q. q)
        (opens h trail true_reads (subst (λ (e : D). stands e h) (sym part) stood) is.file.settled.sound (history_there h trail is) (file_there h trail is))
    opened_again (Err e) opens = tt

    -- no gate is bad
    pub none_bad : {T : Type 0} (r : Result T (Unopened D))
        → IfErr r (λ e. (h : List Moment) (trail : List Entry) → honest e.disk → stands d h → is_sound h ≡ true → History s trail → IsFileOf s trail (seen h) → Ran (stands e.disk) h (IsFound s trail h) (λ _. IsBad e.why → ⊥))
        → IfErr r (λ e. (h : List Moment) (trail : List Entry) → honest e.disk → stands (disk_of old) h → IsJournalOf old h trail → Ran (stands e.disk) h (IsFileOf s trail) (λ _. IsBad e.why → ⊥))
    none_bad (Ok x) bad = tt
    none_bad (Err e) bad = λ h trail true_reads stood is.
        ran_weaker (stands e.disk) h (IsFound s trail h) (IsFileOf s trail) (λ _. IsBad e.why → ⊥) (λ _. IsBad e.why → ⊥) (found_there h trail is) (λ l q. q)
        (bad h trail true_reads (subst (λ (e2 : D). stands e2 h) (sym part) stood) is.file.settled.sound (history_there h trail is) (file_there h trail is))
