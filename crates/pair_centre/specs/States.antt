-- Which checkpoint with which asks behind it stands for a trail, and which two files do.
use Rattle.std.specs.Prelude.{◌≡◌, ◌⊎◌, ℕ, List, [], ◌∷◌, ◌++◌, map}
use Rattle.journal_disk.specs.declared.disk.Moment.{Moment}
use Rattle.dc_talk.specs.declared.ask.Ask.{Ask}
use Rattle.dc_talk.specs.declared.settings.Settings.{Settings}
use Rattle.dc_talk.specs.Entries.{Entry}
use Rattle.centre_parts.specs.declared.part.CentreParts.{CentreParts}
use Rattle.centre_parts.specs.Conditions.{MeetsAll}
use Rattle.dc_centre.specs.Centre.{CentreView, StandsFor}
use Rattle.dc_centre.specs.Parts.{ArePartsOf}
use Rattle.journal_asks.specs.declared.kept_ask.KeptAsk.{KeptAsk}
use Rattle.journal_pair.specs.declared.entry.Entry as pair
use Rattle.journal_pair.specs.Entries.{ArePair}
use Rattle.journal_pair.specs.Files.{PairOf, FoundBoth}
use Rattle.parts_codec.specs.declared.parts_item.PartsItem.{PartsItem}
use Rattle.parts_codec.specs.Plain.{plain_centre, HasParts, AreOfKind}
use Rattle.dc_journal.specs.Asks.{AreAsksOf}
use Rattle.dc_journal.specs.Answered.{answered}
use Rattle.pair_centre.specs.declared.item.PairItem.{PairItem}
use Rattle.pair_centre.specs.declared.item.PairItem.TheVariants.{Parts, Asked}
use Rattle.pair_centre.specs.Items.{item_bytes}

-- the item has these parts of a centre with these settings, each of its plain states is that of a state of its object's
-- kind, and they meet all conditions
pub record IsItemOf (s : Settings) (parts : CentreParts) (item : PartsItem) : Type 0 where
  pub settings : parts.settings ≡ s
  pub meets : MeetsAll parts
  pub kinds : AreOfKind parts
  pub plain : item.centre ≡ plain_centre parts
  pub states : HasParts item.centre

-- the parts of the item are those of a centre that stands for the trail
pub record IsPartsOf (s : Settings) (trail : List Entry) (item : PartsItem) : Type 0 where
  pub centre : CentreView
  pub parts : CentreParts
  pub stands : StandsFor centre trail
  pub told : ArePartsOf centre parts
  pub has : IsItemOf s parts item

-- no checkpoint stands for the empty trail, and the parts of a centre for each trail that this centre stands for
abbrev pub IsCheckpointOf : Settings → List Entry → List PairItem → Type 0
IsCheckpointOf s front [] = front ≡ []
IsCheckpointOf s front (Parts item ∷ []) = IsPartsOf s front item
IsCheckpointOf s front _ = ⊥

-- a checkpoint of a front of the trail, and behind it the asks of the rest whose replies are kept
pub record IsStateOf (s : Settings) (trail : List Entry) (checkpoint behind : List PairItem) : Type 0 where
  pub front : List Entry
  pub rest : List Entry
  pub trail_is : trail ≡ front ++ rest
  pub starts : IsCheckpointOf s front checkpoint
  pub items : List KeptAsk
  pub goes_on : behind ≡ map Asked items
  pub asks : AreAsksOf s.me items rest

-- two files have a checkpoint and asks behind it that stand for the trail
abbrev pub IsPairFileOf : Settings → List Entry → List ℕ → List ℕ → Type 0
IsPairFileOf s trail x y = (checkpoint : List PairItem) × ((behind : List PairItem) × ((IsStateOf s trail checkpoint behind) × (PairOf item_bytes checkpoint behind x y)))

-- they stand for the trail, or for the trail with all these asks more and their answers
abbrev pub IsPairFileAround : Settings → List Entry → List Ask → List ℕ → List ℕ → Type 0
IsPairFileAround s trail asks x y = (IsPairFileOf s trail x y) ⊎ (IsPairFileOf s (trail ++ answered s trail asks) x y)

-- two files have entries that stand for the trail, but for a file that a crash might have left before
abbrev pub IsFoundPair : Settings → List Entry → List Moment → List Moment → List ℕ → List ℕ → Type 0
IsFoundPair s trail h k x y =
    (checkpoint : List PairItem) × ((behind : List PairItem) × ((xs : List (pair.Entry PairItem)) × ((ys : List (pair.Entry PairItem)) × ((IsStateOf s trail checkpoint behind) × (ArePair checkpoint behind xs ys) × (FoundBoth item_bytes xs ys h k x y)))))
