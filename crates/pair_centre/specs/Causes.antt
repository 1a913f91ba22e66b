-- Why two files were not opened as the journal of a centre, in their items.
use Rattle.std.specs.Prelude.{◌≡◌, ℕ, List, [], ◌∷◌, ◌++◌, length}
use Rattle.dc_talk.specs.declared.settings.Settings.{Settings}
use Rattle.dc_talk.specs.Answers.{History}
use Rattle.dc_talk.specs.Entries.{Entry}
use Rattle.centre_parts.specs.declared.part.CentreParts.{CentreParts}
use Rattle.journal_pair.specs.declared.faults.PairFault.TheVariants.{NoMemory}
use Rattle.journal_pair.specs.Causes as pair_causes
use Rattle.journal_pair.specs.Files.{PairOf}
use Rattle.dc_journal.specs.Files.{IsTaken}
use Rattle.pair_centre.specs.declared.item.PairItem.{PairItem}
use Rattle.pair_centre.specs.declared.item.PairItem.TheVariants.{Parts, Asked}
use Rattle.pair_centre.specs.declared.faults.CentreFault.{CentreFault}
use Rattle.pair_centre.specs.declared.faults.CentreFault.TheVariants.{Pair, BadCheckpoint, BadAsk}
use Rattle.pair_centre.specs.Items.{item_bytes}
use Rattle.pair_centre.specs.States.{IsItemOf, IsCheckpointOf, IsStateOf}

-- there is no checkpoint, or it is the parts of a centre with these settings
abbrev pub IsStart : Settings → List PairItem → Type 0
IsStart s [] = Unit {0}
IsStart s (Parts item ∷ []) = (parts : CentreParts) × IsItemOf s parts item
IsStart s _ = ⊥

-- the item is an ask that names this centre, and its reply behind the trail is kept
abbrev pub IsTakenItem : Settings → List Entry → PairItem → Type 0
IsTakenItem s trail (Asked ask) = IsTaken s trail ask
IsTakenItem s trail (Parts item) = ⊥

-- a centre starts with the checkpoint, and behind each trail for which it stands it takes these items
pub record AreTaken (s : Settings) (checkpoint behind : List PairItem) : Type 0 where
  pub start : IsStart s checkpoint
  pub goes_on : (front : List Entry) → History s front → IsCheckpointOf s front checkpoint → (rest : List Entry) × ((History s (front ++ rest)) × (IsStateOf s (front ++ rest) checkpoint behind))

-- the first bad item stands at this place: those before it are taken, and it is not, behind any trail with them
pub record IsBadAsk (s : Settings) (checkpoint behind : List PairItem) (place : ℕ) : Type 0 where
  pub front : List PairItem
  pub item : PairItem
  pub more : List PairItem
  pub behind_is : behind ≡ front ++ item ∷ more
  pub at : place ≡ length front
  pub taken : AreTaken s checkpoint front
  pub bad : (trail : List Entry) → History s trail → IsStateOf s trail checkpoint front → IsTakenItem s trail item → ⊥

-- the cause of a fault in the items of two files
abbrev pub HasFault : Settings → CentreFault → List PairItem → List PairItem → Type 0
HasFault s (Pair why) checkpoint behind = why ≡ NoMemory
HasFault s BadCheckpoint checkpoint behind = IsStart s checkpoint → ⊥
HasFault s (BadAsk place) checkpoint behind = IsBadAsk s checkpoint behind place

-- two files are no pair, or have items with this fault
abbrev pub HasCauseIn : Settings → CentreFault → List ℕ → List ℕ → Type 0
HasCauseIn s (Pair why) x y = pair_causes.HasCauseIn item_bytes why x y
HasCauseIn s fault x y = (checkpoint : List PairItem) × ((behind : List PairItem) × ((PairOf item_bytes checkpoint behind x y) × (HasFault s fault checkpoint behind)))
