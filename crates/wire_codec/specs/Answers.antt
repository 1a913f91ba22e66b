-- What bytes are.
use Rattle.std.specs.Prelude.{◌≡◌, ◌-◌, ℕ, List, ◌++◌, length, Result, Ok, Err}
use Rattle.wire_codec.specs.declared.item.Item.{Item}
use Rattle.wire_codec.specs.declared.item.Decoded.{Decoded}
use Rattle.wire_codec.specs.declared.item.Decoded.TheVariants as decoded
use Rattle.wire_codec.specs.declared.fault.Fault.{Fault}
use Rattle.wire_codec.specs.declared.fault.Fault.TheVariants.{Short, Bad}
use Rattle.wire_codec.specs.Fields.{EndsEarly, IsFirstFault}
use Rattle.wire_codec.specs.Grammar.{frame}
use Rattle.wire_codec.specs.Spelling.{spelled as spelling, IsSpelled}

-- the bytes begin with a spelling of the item, which has so many
pub record BeginsWith (bytes : List ℕ) (item : Item) (used : ℕ) : Type 0 where
  pub version : ℕ
  pub rest : List ℕ
  pub spelled : IsSpelled version item
  pub are : bytes ≡ spelling version item ++ rest
  pub size : used ≡ length (spelling version item)

-- Some front is a spelling; or every whole field is allowed, and the bytes end before the frame does; or the first field that is not allowed begins at that place.
abbrev pub IsAnswer : List ℕ → Decoded → Type 0
IsAnswer bytes (decoded.Whole item used) = BeginsWith bytes item used
IsAnswer bytes decoded.Short = EndsEarly frame bytes
IsAnswer bytes (decoded.Bad place) = IsFirstFault frame bytes place

-- what is told of so many bytes where reading gives this
abbrev pub told : ℕ → Result ((ℕ × Item) × List ℕ) Fault → Decoded
told count (Ok x) = decoded.Whole x.0.1 (count - length x.1)
told count (Err Short) = decoded.Short
told count (Err (Bad left)) = decoded.Bad (count - left)
