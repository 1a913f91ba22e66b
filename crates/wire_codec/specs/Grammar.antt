-- The fields of a frame, in their order. Numbers have their greatest byte first.
use Rattle.std.specs.Prelude.{◌==◌, ◌&&◌, ◌||◌, ◌-◌, ℕ, zero, suc, Bool, true, List, [], ◌∷◌, Option, Some, None, nat_le, if◌then◌else◌}
use Rattle.std.specs.Int.{w8, w16, w32, w64, cast_signed}
use Rattle.std.specs.Ordering.{is_lt}
use Rattle.ids_core.specs.declared.ids.OpId.{OpId}
use Rattle.ids_core.specs.declared.object.Sort.{Sort}
use Rattle.ids_core.specs.declared.object.Sort.TheVariants.{Counter, Register, Set, Map}
use Rattle.ids_core.specs.declared.limits.TheConstants.{MOST_CLIENTS, MOST_CENTRES, MOST_UPDATES, MOST_TAGS, MOST_RECORDS, MOST_NUMBER}
use Rattle.ids_core.specs.Orders.{id_cmp}
use Rattle.tx_core.specs.declared.op.Op.{Op}
use Rattle.tx_core.specs.declared.op.Op.TheVariants.{Inc, Write, Add, Remove, Put, Erase}
use Rattle.tx_core.specs.declared.tx.Update.{Update}
use Rattle.tx_core.specs.declared.tx.Tx.{Tx}
use Rattle.tx_core.specs.Checks.{is_small_delta}
use Rattle.wire_codec.specs.declared.item.Item.{Item}
use Rattle.wire_codec.specs.declared.item.Item.TheVariants.{Rec, Rep}
use Rattle.wire_codec.specs.declared.item.TheConstants.{SIGN, OLDEST_VERSION, VERSION}
use Rattle.wire_codec.specs.Fields.{Fields, End, ◌>>=◌, number, number_where, bytes_where, times}

-- ---- names

-- a to z, 0 to 9 and _
abbrev pub is_name_byte : ℕ → Bool
is_name_byte b = (nat_le 97 b && nat_le b 122) || (nat_le 48 b && nat_le b 57) || (b == 95)

-- each is such a byte
abbrev pub are_name_bytes : List ℕ → Bool
are_name_bytes [] = true
are_name_bytes (b ∷ bytes) = is_name_byte b && are_name_bytes bytes

-- the length, and the bytes
unfoldable pub name : Fields (List ℕ)
name = do
  len ← number w8 1 32
  bytes_where len are_name_bytes

-- ---- tags

-- the identifier is greater than the one before, if there is one
abbrev pub is_next : Option OpId → OpId → Bool
is_next None id = true
is_next (Some last) id = is_lt (id_cmp last id)

-- the identifier of these numbers
abbrev pub op_id : ℕ → ℕ → ℕ → OpId
op_id client number place = record { dot = record { client = client; number = number }; place = place }

-- the place can be that of an update, and the identifier is greater than the one before
abbrev pub is_place : Option OpId → ℕ → ℕ → ℕ → Bool
is_place last client count place = nat_le place (MOST_UPDATES - 1) && is_next last (op_id client count place)

-- the tag behind another
unfoldable pub tag : Option OpId → Fields OpId
tag last = do
  client ← number w32 1 MOST_CLIENTS
  count ← number w64 1 MOST_NUMBER
  place ← number_where w16 (is_place last client count)
  End (op_id client count place)

-- so many tags behind another
unfoldable pub tags_after : ℕ → Option OpId → Fields (List OpId)
tags_after zero last = End []
tags_after (suc n) last = do
  id ← tag last
  ids ← tags_after n (Some id)
  End (id ∷ ids)

-- the number of the tags, and the tags
unfoldable pub tags : Fields (List OpId)
tags = do
  count ← number w16 0 MOST_TAGS
  tags_after count None

-- ---- updates

-- the kind of objects that a byte says
abbrev pub sort_of : ℕ → Sort
sort_of n = if n == 1 then Counter else if n == 2 then Register else if n == 3 then Set else Map

-- the codes of the operations on that kind
abbrev pub first_code : Sort → ℕ
first_code Counter = 1
first_code Register = 2
first_code Set = 3
first_code Map = 5

abbrev pub last_code : Sort → ℕ
last_code Counter = 1
last_code Register = 2
last_code Set = 4
last_code Map = 6

-- the number is a small delta in two's complement
abbrev pub is_delta : ℕ → Bool
is_delta n = is_small_delta (cast_signed w64 n)

-- what follows the code of an operation
unfoldable pub inc : Fields Op
inc = do
  n ← number_where w64 is_delta
  End (Inc (cast_signed w64 n))

unfoldable pub write : Fields Op
write = do
  word ← name
  End (Write word)

unfoldable pub add : Fields Op
add = do
  word ← name
  over ← tags
  End (Add word over)

unfoldable pub remove : Fields Op
remove = do
  word ← name
  over ← tags
  End (Remove word over)

unfoldable pub put : Fields Op
put = do
  key ← name
  word ← name
  over ← tags
  End (Put key word over)

unfoldable pub erase : Fields Op
erase = do
  key ← name
  over ← tags
  End (Erase key over)

unfoldable pub op_of : ℕ → Fields Op
op_of code =
    if code == 1 then inc
    else if code == 2 then write
    else if code == 3 then add
    else if code == 4 then remove
    else if code == 5 then put
    else erase

-- the object, the code and the operation
unfoldable pub update : Fields Update
update = do
  sort ← number w8 1 4
  named ← name
  code ← number w8 (first_code (sort_of sort)) (last_code (sort_of sort))
  op ← op_of code
  End (record { object = record { sort = sort_of sort; name = named }; op = op })

-- ---- frames

-- so many entries of a vector
unfoldable pub entries : ℕ → Fields (List ℕ)
entries width = times width (number w64 0 MOST_RECORDS)

-- a transaction whose snapshot is so wide
unfoldable pub tx : ℕ → Fields Tx
tx width = do
  client ← number w32 1 MOST_CLIENTS
  count ← number w64 1 MOST_NUMBER
  rank ← number w64 1 MOST_NUMBER
  snap ← entries width
  updates ← number w16 1 MOST_UPDATES
  list ← times updates update
  End (record { dot = record { client = client; number = count }; rank = rank; snap = snap; updates = list })

-- the hops, which version 1 has not
unfoldable pub hops_of : ℕ → Fields ℕ
hops_of version = if version == OLDEST_VERSION then End 0 else number w8 0 (MOST_CENTRES - 1)

-- a record of a centre
unfoldable pub record_of : ℕ → ℕ → Fields Item
record_of version centre = do
  hops ← hops_of version
  seq ← number w64 1 MOST_RECORDS
  width ← number w8 centre MOST_CENTRES
  deps ← entries width
  taken ← tx width
  End (Rec (record { stamp = record { centre = centre; seq = seq }; deps = deps; tx = taken }) hops)

-- a report of a centre
unfoldable pub report_of : ℕ → Fields Item
report_of centre = do
  width ← number w8 centre MOST_CENTRES
  vector ← entries width
  End (Rep centre vector)

-- a frame of one of the versions, with that version
unfoldable pub frame : Fields (ℕ × Item)
frame = do
  sign ← number w8 SIGN SIGN
  version ← number w8 OLDEST_VERSION VERSION
  kind ← number w8 1 2
  centre ← number w8 1 MOST_CENTRES
  item ← if kind == 1 then record_of version centre else report_of centre
  End (version, item)
