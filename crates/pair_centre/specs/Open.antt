-- What contracts see of a centre with its journal in two files, and for which trails it stands.
use Rattle.std.specs.Prelude.{◌≡◌, ℕ, Bool, List}
use Rattle.journal_disk.specs.declared.disk.Disk.{Ghosts}
use Rattle.journal_disk.specs.declared.disk.Moment.{Moment}
use Rattle.journal_pair.specs.Pairs as pair
use Rattle.dc_talk.specs.declared.settings.Settings.{Settings}
use Rattle.dc_talk.specs.Answers.{History}
use Rattle.dc_talk.specs.Entries.{Entry}
use Rattle.dc_centre.specs.Centre.{CentreView, StandsFor}
use Rattle.pair_centre.specs.declared.pair_centre.PairCentre.{PairCentre}
use Rattle.pair_centre.specs.declared.item.PairItem.{PairItem}
use Rattle.pair_centre.specs.Items.{item_bytes}
use Rattle.pair_centre.specs.States.{IsStateOf}

module _ {D : Type 0} {disk : Ghosts D} where
  -- its centre
  abbrev pub centre_of : PairCentre D disk → CentreView
  centre_of p = p.centre

  -- its settings
  abbrev pub settings_of : PairCentre D disk → Settings
  settings_of p = p.centre.settings

  -- the disk of its live file
  abbrev pub live_disk : PairCentre D disk → D
  live_disk p = pair.live_disk p.pair

  -- the disk of its other file
  abbrev pub other_disk : PairCentre D disk → D
  other_disk p = pair.other_disk p.pair

  -- how long its live file is
  abbrev pub live_size : PairCentre D disk → ℕ
  live_size p = pair.live_size p.pair

  -- how long it was with its checkpoint alone
  abbrev pub checkpoint_size : PairCentre D disk → ℕ
  checkpoint_size p = pair.checkpoint_size p.pair

  -- whether it takes no more asks
  abbrev pub is_shut : PairCentre D disk → Bool
  is_shut p = pair.is_shut p.pair

  -- neither its centre nor its journal has changed
  abbrev pub IsSame : PairCentre D disk → PairCentre D disk → Type 0
  IsSame old new = (new.centre ≡ old.centre) × (new.pair ≡ old.pair)

  -- it stands for a trail, where its live disk and its other disk stand for these histories of calls: the trail is a
  -- history of a centre, its centre stands for it, and its files are settled and have a checkpoint and asks behind it that
  -- stand for the trail
  pub record IsPairOf (p : PairCentre D disk) (h k : List Moment) (trail : List Entry) : Type 0 where
    pub history : History (settings_of p) trail
    pub centre : StandsFor (centre_of p) trail
    pub checkpoint : List PairItem
    pub behind : List PairItem
    pub state : IsStateOf (settings_of p) trail checkpoint behind
    pub files : pair.Has item_bytes p.pair h k checkpoint behind
