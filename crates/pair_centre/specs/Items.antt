-- The items of the journal of a centre, and their bytes.
use Rattle.std.specs.Prelude.{◌∷◌, ℕ, List}
use Rattle.journal_asks.specs.declared.kept_ask.KeptAsk.{KeptAsk}
use Rattle.journal_asks.specs.Asks as ask
use Rattle.journal_pair.specs.declared.entry.Entry.{Entry}
use Rattle.journal_pair.specs.declared.entry.Entry.TheVariants.{Behind}
use Rattle.parts_codec.specs.Items as parts
use Rattle.pair_centre.specs.declared.item.PairItem.{PairItem}
use Rattle.pair_centre.specs.declared.item.PairItem.TheVariants.{Parts, Asked}

-- a tag, and the bytes of the parts or of the ask
abbrev pub item_bytes : PairItem → List ℕ
item_bytes (Parts item) = 0 ∷ parts.item_bytes item
item_bytes (Asked item) = 1 ∷ ask.spelled item

-- an ask behind the checkpoint
abbrev pub ask_behind : KeptAsk → Entry PairItem
ask_behind x = Behind (Asked x)
