-- Reading field by field, as the functions of this crate do it.
use Rattle.std.specs.Prelude.{◌≡◌, ◌==◌, ◌-◌, ℕ, zero, suc, List, [], ◌∷◌, ◌++◌, Option, Some, None, Result, Ok, Err, if◌then◌else◌}
use Rattle.std.specs.Int.{w8, w16, w32, w64, cast_signed}
use Rattle.ids_core.specs.declared.ids.OpId.{OpId}
use Rattle.ids_core.specs.declared.limits.TheConstants.{MOST_CLIENTS, MOST_CENTRES, MOST_UPDATES, MOST_TAGS, MOST_RECORDS, MOST_NUMBER}
use Rattle.tx_core.specs.declared.op.Op.{Op}
use Rattle.tx_core.specs.declared.op.Op.TheVariants.{Inc, Write, Add, Remove, Put, Erase}
use Rattle.tx_core.specs.declared.tx.Update.{Update}
use Rattle.tx_core.specs.declared.tx.Tx.{Tx}
use Rattle.wire_codec.specs.declared.item.Item.{Item}
use Rattle.wire_codec.specs.declared.item.Item.TheVariants.{Rec, Rep}
use Rattle.wire_codec.specs.declared.item.TheConstants.{SIGN, OLDEST_VERSION, VERSION}
use Rattle.wire_codec.specs.declared.fault.Fault.{Fault}
use Rattle.wire_codec.specs.declared.fault.Stop.{Stop}
use Rattle.wire_codec.specs.declared.fault.Stop.TheVariants as stops
use Rattle.wire_codec.specs.Fields.{read, number, number_where, bytes_where}
use Rattle.wire_codec.specs.Grammar.{are_name_bytes, op_id, is_place, sort_of, first_code, last_code, is_delta}

infixl 10 ◌>>=◌
-- the second step goes by the value of the first, and the first fault stays
abbrev pub ◌>>=◌ : {A B : Type 0} → Result A Fault → (A → Result B Fault) → Result B Fault
(Ok x) >>= f = f x
(Err e) >>= f = Err e

-- where reading stopped for another cause than memory, this is its fault
abbrev pub Fails : {Y : Type 0} → Stop → Result Y Fault → Type 0
Fails stops.Memory reading = Unit {0}
Fails (stops.Fault fault) reading = reading ≡ Err fault

-- a function gave what reading gives, unless memory ran out
abbrev pub Gives : {X Y : Type 0} → (X → Y) → Result X Stop → Result Y Fault → Type 0
Gives view (Ok x) reading = reading ≡ Ok (view x)
Gives view (Err stop) reading = Fails stop reading

-- a value and the bytes behind it
abbrev pub Reading : Type 0 → Type 0
Reading A = Result (A × List ℕ) Fault

unfoldable pub name_at : List ℕ → Reading (List ℕ)
name_at bytes = do
  len ← read (number w8 1 32) bytes
  read (bytes_where len.0 are_name_bytes) len.1

unfoldable pub tag_at : Option OpId → List ℕ → Reading OpId
tag_at last bytes = do
  client ← read (number w32 1 MOST_CLIENTS) bytes
  count ← read (number w64 1 MOST_NUMBER) client.1
  place ← read (number_where w16 (is_place last client.0 count.0)) count.1
  Ok (op_id client.0 count.0 place.0, place.1)

unfoldable pub tags_after_at : ℕ → Option OpId → List ℕ → Reading (List OpId)
tags_after_at zero last bytes = Ok ([], bytes)
tags_after_at (suc n) last bytes = do
  id ← tag_at last bytes
  ids ← tags_after_at n (Some id.0) id.1
  Ok (id.0 ∷ ids.0, ids.1)

unfoldable pub tags_at : List ℕ → Reading (List OpId)
tags_at bytes = do
  count ← read (number w16 0 MOST_TAGS) bytes
  tags_after_at count.0 None count.1

unfoldable pub inc_at : List ℕ → Reading Op
inc_at bytes = do
  n ← read (number_where w64 is_delta) bytes
  Ok (Inc (cast_signed w64 n.0), n.1)

unfoldable pub write_at : List ℕ → Reading Op
write_at bytes = do
  word ← name_at bytes
  Ok (Write word.0, word.1)

unfoldable pub add_at : List ℕ → Reading Op
add_at bytes = do
  word ← name_at bytes
  over ← tags_at word.1
  Ok (Add word.0 over.0, over.1)

unfoldable pub remove_at : List ℕ → Reading Op
remove_at bytes = do
  word ← name_at bytes
  over ← tags_at word.1
  Ok (Remove word.0 over.0, over.1)

unfoldable pub put_at : List ℕ → Reading Op
put_at bytes = do
  key ← name_at bytes
  word ← name_at key.1
  over ← tags_at word.1
  Ok (Put key.0 word.0 over.0, over.1)

unfoldable pub erase_at : List ℕ → Reading Op
erase_at bytes = do
  key ← name_at bytes
  over ← tags_at key.1
  Ok (Erase key.0 over.0, over.1)

unfoldable pub op_at : ℕ → List ℕ → Reading Op
op_at code bytes =
    if code == 1 then inc_at bytes
    else if code == 2 then write_at bytes
    else if code == 3 then add_at bytes
    else if code == 4 then remove_at bytes
    else if code == 5 then put_at bytes
    else erase_at bytes

unfoldable pub update_at : List ℕ → Reading Update
update_at bytes = do
  sort ← read (number w8 1 4) bytes
  named ← name_at sort.1
  code ← read (number w8 (first_code (sort_of sort.0)) (last_code (sort_of sort.0))) named.1
  op ← op_at code.0 code.1
  Ok (record { object = record { sort = sort_of sort.0; name = named.0 }; op = op.0 }, op.1)

unfoldable pub updates_at : ℕ → List ℕ → Reading (List Update)
updates_at zero bytes = Ok ([], bytes)
updates_at (suc n) bytes = do
  first ← update_at bytes
  others ← updates_at n first.1
  Ok (first.0 ∷ others.0, others.1)

unfoldable pub entries_at : ℕ → List ℕ → Reading (List ℕ)
entries_at zero bytes = Ok ([], bytes)
entries_at (suc n) bytes = do
  first ← read (number w64 0 MOST_RECORDS) bytes
  others ← entries_at n first.1
  Ok (first.0 ∷ others.0, others.1)

unfoldable pub tx_at : ℕ → List ℕ → Reading Tx
tx_at width bytes = do
  client ← read (number w32 1 MOST_CLIENTS) bytes
  count ← read (number w64 1 MOST_NUMBER) client.1
  rank ← read (number w64 1 MOST_NUMBER) count.1
  snap ← entries_at width rank.1
  updates ← read (number w16 1 MOST_UPDATES) snap.1
  list ← updates_at updates.0 updates.1
  Ok (record { dot = record { client = client.0; number = count.0 }; rank = rank.0; snap = snap.0; updates = list.0 }, list.1)

unfoldable pub hops_at : ℕ → List ℕ → Reading ℕ
hops_at version bytes = if version == OLDEST_VERSION then Ok (0, bytes) else read (number w8 0 (MOST_CENTRES - 1)) bytes

unfoldable pub record_at : ℕ → ℕ → List ℕ → Reading Item
record_at version centre bytes = do
  hops ← hops_at version bytes
  seq ← read (number w64 1 MOST_RECORDS) hops.1
  width ← read (number w8 centre MOST_CENTRES) seq.1
  deps ← entries_at width.0 width.1
  taken ← tx_at width.0 deps.1
  Ok (Rec (record { stamp = record { centre = centre; seq = seq.0 }; deps = deps.0; tx = taken.0 }) hops.0, taken.1)

unfoldable pub report_at : ℕ → List ℕ → Reading Item
report_at centre bytes = do
  width ← read (number w8 centre MOST_CENTRES) bytes
  vector ← entries_at width.0 width.1
  Ok (Rep centre vector.0, vector.1)

unfoldable pub item_at : ℕ → ℕ → ℕ → List ℕ → Reading Item
item_at version kind centre bytes = if kind == 1 then record_at version centre bytes else report_at centre bytes

unfoldable pub frame_at : List ℕ → Reading (ℕ × Item)
frame_at bytes = do
  sign ← read (number w8 SIGN SIGN) bytes
  version ← read (number w8 OLDEST_VERSION VERSION) sign.1
  kind ← read (number w8 1 2) version.1
  centre ← read (number w8 1 MOST_CENTRES) kind.1
  item ← item_at version.0 kind.0 centre.0 centre.1
  Ok ((version.0, item.0), item.1)

-- what reading the rest gives, with what was read before in front
abbrev pub with_front : {A : Type 0} → List A → Reading (List A) → Reading (List A)
with_front front reading = reading >>= λ x. Ok (front ++ x.0, x.1)
