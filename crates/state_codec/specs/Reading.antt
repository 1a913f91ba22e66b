-- Reading field by field, as the functions of this crate do it.
use Rattle.std.specs.Prelude.{◌≡◌, ◌==◌, ◌+◌, ◌*◌, ◌^◌, ◌-◌, ℕ, ℤ, zero, suc, pos, Bool, true, false, not, cond, int_lt, List, [], ◌∷◌, ◌++◌, Option, Some, None, Result, Ok, Err, if◌then◌else◌}
use Rattle.std.specs.Result.{result_ok}
use Rattle.std.specs.Int.{w8, w16, w32, w64, w128, cast_signed}
use Rattle.std.specs.Ordering.{int_eq}
use Rattle.ids_core.specs.declared.ids.OpId.{OpId}
use Rattle.ids_core.specs.declared.ids.Mark.{Mark}
use Rattle.ids_core.specs.declared.limits.TheConstants.{MOST_CLIENTS, MOST_UPDATES, MOST_NUMBER}
use Rattle.obj_register.specs.declared.register.RegisterOp.{RegisterOp}
use Rattle.obj_map.specs.declared.put.Put.{Put}
use Rattle.tally_core.specs.declared.place.Place.{Place}
use Rattle.tally_core.specs.declared.place.Cell.{Cell}
use Rattle.tally_core.specs.Places.{place}
use Rattle.tally_core.specs.Listing.{ascend}
use Rattle.wire_codec.specs.Fields.{Fields, read, number, number_where, bytes_where}
use Rattle.wire_codec.specs.Grammar.{are_name_bytes, op_id}
use Rattle.state_codec.specs.declared.state.PlainState.{PlainState}
use Rattle.state_codec.specs.declared.state.PlainState.TheVariants.{Counter, Register, Set, Map}
use Rattle.state_codec.specs.declared.state.PlainPart.{PlainPart}
use Rattle.state_codec.specs.declared.stop.Stop.{Stop}
use Rattle.state_codec.specs.declared.stop.Stop.TheVariants as stops

-- a value and the bytes behind it, if they begin with one
abbrev pub Reading : Type 0 → Type 0
Reading A = Option (A × List ℕ)

infixl 10 ◌>>=◌
-- the second step goes by the value of the first
abbrev pub ◌>>=◌ : {A B : Type 0} → Reading A → (A × List ℕ → Reading B) → Reading B
(Some x) >>= f = f x
None >>= f = None

-- where reading stopped for another cause than memory, the bytes begin with no such value
abbrev pub Fails : {Y : Type 0} → Stop → Option Y → Type 0
Fails stops.Memory reading = Unit {0}
Fails stops.Other reading = reading ≡ None

-- a function gave what reading gives, unless memory ran out
abbrev pub Gives : {X Y : Type 0} → (X → Y) → Result X Stop → Option Y → Type 0
Gives view (Ok x) reading = reading ≡ Some (view x)
Gives view (Err stop) reading = Fails stop reading

-- the first fields of bytes
abbrev pub front : {A : Type 0} → Fields A → List ℕ → Reading A
front fields bytes = result_ok (read fields bytes)

-- any number of eight bytes
abbrev pub any_number : Fields ℕ
any_number = number w64 0 18446744073709551615

unfoldable pub name_at : List ℕ → Reading (List ℕ)
name_at bytes = do
  len ← front (number w8 1 32) bytes
  front (bytes_where len.0 are_name_bytes) len.1

unfoldable pub id_at : List ℕ → Reading OpId
id_at bytes = do
  client ← front (number w32 1 MOST_CLIENTS) bytes
  count ← front (number w64 1 MOST_NUMBER) client.1
  place ← front (number w16 0 (MOST_UPDATES - 1)) count.1
  Some (op_id client.0 count.0 place.0, place.1)

unfoldable pub sum_at : List ℕ → Reading ℤ
sum_at bytes = do
  high ← front any_number bytes
  low ← front any_number high.1
  Some (cast_signed w128 (high.0 * 2 ^ 64 + low.0), low.1)

unfoldable pub write_at : List ℕ → Reading (Mark × RegisterOp)
write_at bytes = do
  rank ← front (number w64 1 MOST_NUMBER) bytes
  id ← id_at rank.1
  word ← name_at id.1
  Some ((record { rank = rank.0; id = id.0 }, record { word = word.0 }), word.1)

unfoldable pub last_at : List ℕ → Reading (Option (Mark × RegisterOp))
last_at bytes = do
  flag ← front (number w8 0 1) bytes
  if flag.0 == 0 then Some (None, flag.1) else (write_at flag.1 >>= λ write. Some (Some write.0, write.1))

-- the number is a tally in two's complement
abbrev pub is_tally : ℕ → Bool
is_tally n = not (int_eq (cast_signed w64 n) (pos 0))

unfoldable pub tally_at : List ℕ → Reading ℤ
tally_at bytes = do
  n ← front (number_where w64 is_tally) bytes
  Some (cast_signed w64 n.0, n.1)

unfoldable pub place_at : List ℕ → Reading Place
place_at bytes = do
  name ← name_at bytes
  id ← id_at name.1
  Some (place name.0 id.0, id.1)

unfoldable pub member_at : List ℕ → Reading (Place × Cell (Unit {0}))
member_at bytes = do
  at ← place_at bytes
  count ← tally_at at.1
  Some ((at.0, record { count = count.0; kept = cond (int_lt (pos 0) count.0) (Some tt) None }), count.1)

unfoldable pub put_at : List ℕ → Reading Put
put_at bytes = do
  rank ← front (number w64 1 MOST_NUMBER) bytes
  word ← name_at rank.1
  Some (record { rank = rank.0; word = word.0 }, word.1)

unfoldable pub kept_at : Bool → List ℕ → Reading (Option Put)
kept_at false bytes = Some (None, bytes)
kept_at true bytes = do
  put ← put_at bytes
  Some (Some put.0, put.1)

unfoldable pub entry_at : List ℕ → Reading (Place × Cell Put)
entry_at bytes = do
  at ← place_at bytes
  count ← tally_at at.1
  kept ← kept_at (int_lt (pos 0) count.0) count.1
  Some ((at.0, record { count = count.0; kept = kept.0 }), kept.1)

unfoldable pub times_at : {A : Type 0} → (List ℕ → Reading A) → ℕ → List ℕ → Reading (List A)
times_at way zero bytes = Some ([], bytes)
times_at way (suc n) bytes = do
  first ← way bytes
  others ← times_at way n first.1
  Some (first.0 ∷ others.0, others.1)

-- tallies, behind their number
unfoldable pub list_at : {P : Type 0} → (List ℕ → Reading (Place × Cell P)) → List ℕ → Reading (List (Place × Cell P))
list_at way bytes = do
  count ← front any_number bytes
  list ← times_at way count.0 count.1
  if ascend list.0 then Some list else None

unfoldable pub body_at : ℕ → List ℕ → Reading PlainState
body_at kind bytes =
    if kind == 1 then (sum_at bytes >>= λ sum. Some (Counter sum.0, sum.1))
    else if kind == 2 then (last_at bytes >>= λ last. Some (Register last.0, last.1))
    else if kind == 3 then (list_at member_at bytes >>= λ list. Some (Set list.0, list.1))
    else (list_at entry_at bytes >>= λ list. Some (Map list.0, list.1))

unfoldable pub plain_at : List ℕ → Reading PlainState
plain_at bytes = do
  kind ← front (number w8 1 4) bytes
  body_at kind.0 kind.1

unfoldable pub named_at : List ℕ → Reading PlainPart
named_at bytes = do
  name ← name_at bytes
  state ← plain_at name.1
  Some (record { name = name.0; state = state.0 }, state.1)

-- what reading the rest gives, with what was read before in front
abbrev pub with_front : {A : Type 0} → List A → Reading (List A) → Reading (List A)
with_front front reading = reading >>= λ x. Some (front ++ x.0, x.1)
