-- The bytes of a centre as an item.
use Rattle.std.specs.Prelude.{ℕ, List}
use Rattle.parts_codec.specs.declared.parts_item.PartsItem.{PartsItem}
use Rattle.parts_codec.specs.Spelling.{centre_bytes}

-- those of the centre
abbrev pub item_bytes : PartsItem → List ℕ
item_bytes item = centre_bytes item.centre
