-- What contracts see of a centre with a journal, and for which trails it stands.
use Rattle.std.specs.Prelude.{◌≡◌, ℕ, Bool, List}
use Rattle.journal_disk.specs.declared.disk.Disk.{Ghosts}
use Rattle.journal_disk.specs.declared.disk.Moment.{Moment}
use Rattle.journal_file.specs.Journal.{IsAt}
use Rattle.journal_file.specs.Open as file
use Rattle.dc_talk.specs.declared.settings.Settings.{Settings}
use Rattle.dc_talk.specs.Answers.{History}
use Rattle.dc_talk.specs.Entries.{Entry}
use Rattle.dc_centre.specs.Centre.{CentreView, StandsFor}
use Rattle.journal_asks.specs.declared.kept_ask.KeptAsk.{KeptAsk}
use Rattle.dc_journal.specs.declared.journal_centre.JournalCentre.{JournalCentre}
use Rattle.journal_asks.specs.Asks.{spelled}
use Rattle.dc_journal.specs.Asks.{AreAsksOf}

module _ {D : Type 0} {disk : Ghosts D} where
  -- its centre
  abbrev pub centre_of : JournalCentre D disk → CentreView
  centre_of j = j.centre

  -- its settings
  abbrev pub settings_of : JournalCentre D disk → Settings
  settings_of j = j.centre.settings

  -- its disk
  abbrev pub disk_of : JournalCentre D disk → D
  disk_of j = file.disk_of j.journal

  -- the place of the closed gate at which its file ends
  abbrev pub end_of : JournalCentre D disk → ℕ
  end_of j = file.end_of j.journal

  -- whether it takes no more asks
  abbrev pub is_shut : JournalCentre D disk → Bool
  is_shut j = file.is_shut j.journal

  -- neither its centre nor its journal has changed
  abbrev pub IsSame : JournalCentre D disk → JournalCentre D disk → Type 0
  IsSame old new = (new.centre ≡ old.centre) × (new.journal ≡ old.journal)

  -- it stands for a trail, where its disk stands for this history of calls: the trail is a history of a centre, its centre
  -- stands for it, and its file is settled and has just the asks whose replies are kept
  pub record IsJournalOf (j : JournalCentre D disk) (h : List Moment) (trail : List Entry) : Type 0 where
    pub history : History (settings_of j) trail
    pub centre : StandsFor (centre_of j) trail
    pub items : List KeptAsk
    pub asks : AreAsksOf (settings_of j).me items trail
    pub file : IsAt spelled (end_of j) h items
