-- What is known of the file of an open journal.
use Rattle.std.proofs.Common.{◌≡◌, ◌+◌, List, [], ◌∷◌, length, ap, subst, arith, length-append}
use Rattle.journal_disk.specs.declared.disk.Disk.{Ghosts}
use Rattle.journal_disk.specs.declared.disk.Moment.{Moment}
use Rattle.journal_disk.specs.Disk.{seen}
use Rattle.dc_talk.specs.declared.settings.Settings.{Settings}
use Rattle.dc_talk.specs.Entries.{Entry}
use Rattle.dc_journal.specs.declared.journal_centre.JournalCentre.{JournalCentre}
use Rattle.dc_journal.specs.Asks.{AreAsksOf}
use Rattle.dc_journal.specs.Open.{settings_of, end_of, IsJournalOf}
use Rattle.trail_journal.specs.Files.{IsJust}

module _ {D : Type 0} {disk : Ghosts D} (j : JournalCentre D disk) (h : List Moment) (trail : List Entry) (is : IsJournalOf j h trail) where
  -- it is just the journal of the trail
  pub journal_just : (s : Settings) → settings_of j ≡ s → IsJust s trail (seen h)
  journal_just s numbers = record {
    items = is.items;
    asks = subst (λ (g : Settings). AreAsksOf g.me is.items trail) numbers is.asks;
    front = is.file.front;
    entries = is.file.entries;
    file_is = is.file.file_is;
  }

  -- and ends with the closed gate
  pub journal_long : end_of j + 1 ≡ length (seen h)
  journal_long = omega (arith, is.file.place, ap length is.file.file_is, length-append is.file.front (0 ∷ []))
