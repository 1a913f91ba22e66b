-- A centre that is asked again what stands behind a checkpoint.
use Rattle.std.specs.Prelude.{◌≡◌, ℕ, List, ◌∷◌, ◌++◌, map, length}
use Rattle.dc_talk.specs.declared.settings.Settings.{Settings}
use Rattle.dc_talk.specs.Answers.{History}
use Rattle.dc_talk.specs.Entries.{Entry}
use Rattle.dc_centre.specs.Centre.{CentreView, StandsFor}
use Rattle.trail_kept.specs.Kept.{kept}
use Rattle.journal_asks.specs.declared.kept_ask.KeptAsk.{KeptAsk}
use Rattle.journal_pair.specs.declared.faults.PairFault.TheVariants.{NoMemory}
use Rattle.dc_journal.specs.Asks.{asked, due}
use Rattle.dc_journal.specs.Replays.{Takes}
use Rattle.pair_centre.specs.declared.item.PairItem.{PairItem}
use Rattle.pair_centre.specs.declared.item.PairItem.TheVariants.{Asked}
use Rattle.pair_centre.specs.declared.faults.CentreFault.{CentreFault}
use Rattle.pair_centre.specs.declared.faults.CentreFault.TheVariants.{Pair, BadCheckpoint, BadAsk}
use Rattle.pair_centre.specs.Causes.{IsTakenItem}

-- the item is an ask that the centre has taken
abbrev pub TakesItem : Settings → CentreView → CentreView → PairItem → Type 0
TakesItem s old new item = (ask : KeptAsk) × ((item ≡ Asked ask) × (Takes s old new ask))

-- these are the entries of a history behind a front, each with one of these asks and a reply that is kept
pub record IsRestOf (s : Settings) (asks : List KeptAsk) (front rest : List Entry) : Type 0 where
  pub history : History s (front ++ rest)
  pub asks_are : map asked asks ≡ map (due s.me) rest
  pub all : kept rest ≡ rest

-- the centre has taken these items one after another: behind each front for which it stood it stands for each history with
-- just their asks, and there is one
pub record TakesItems (s : Settings) (old new : CentreView) (items : List PairItem) : Type 0 where
  pub asks : List KeptAsk
  pub items_are : items ≡ map Asked asks
  pub stands : (front rest : List Entry) → StandsFor old front → History s (front ++ rest) → map asked asks ≡ map (due s.me) rest → StandsFor new (front ++ rest)
  pub goes_on : (front : List Entry) → StandsFor old front → History s front → (rest : List Entry) × IsRestOf s asks front rest

-- the centre takes the items before this place, and the one that stands there is not taken
pub record StopsAt (s : Settings) (old : CentreView) (items : List PairItem) (place : ℕ) : Type 0 where
  pub front : List PairItem
  pub item : PairItem
  pub more : List PairItem
  pub items_are : items ≡ front ++ item ∷ more
  pub at : place ≡ length front
  pub last : CentreView
  pub same : last.settings ≡ old.settings
  pub takes : TakesItems s old last front
  pub none : (trail : List Entry) → StandsFor last trail → IsTakenItem s trail item → ⊥

-- why it did not take all
abbrev pub HasStopped : Settings → CentreView → List PairItem → CentreFault → Type 0
HasStopped s old items (Pair why) = why ≡ NoMemory
HasStopped s old items BadCheckpoint = ⊥
HasStopped s old items (BadAsk place) = StopsAt s old items place
