-- Reading part by part, as the functions of this crate do it.
use Rattle.std.specs.Prelude.{◌==◌, ◌&&◌, ℕ, Bool, List, Option, Some, None, if◌then◌else◌}
use Rattle.std.specs.Int.{w8, w32}
use Rattle.std.specs.List.{list_all}
use Rattle.ids_core.specs.declared.limits.TheConstants.{MOST_CENTRES}
use Rattle.vv_core.specs.declared.stamp.Stamp.{Stamp}
use Rattle.tx_core.specs.declared.tx.Tx.{Tx}
use Rattle.tx_core.specs.declared.tx.Record.{Record}
use Rattle.tx_core.specs.declared.part.RestPart.{RestPart}
use Rattle.dc_talk.specs.declared.sent.Sent.{Sent}
use Rattle.dc_talk.specs.declared.settings.Settings.{Settings}
use Rattle.dup_guard.specs.declared.noted.Noted.{Noted}
use Rattle.check_point.specs.declared.part.Folded.{Folded}
use Rattle.wire_codec.specs.declared.item.Item.{Item}
use Rattle.wire_codec.specs.declared.item.Item.TheVariants.{Rec, Rep}
use Rattle.wire_codec.specs.declared.item.TheConstants.{VERSION}
use Rattle.wire_codec.specs.Fields.{number}
use Rattle.wire_codec.specs.Grammar.{frame}
use Rattle.state_codec.specs.Reading.{◌>>=◌, Reading, front, any_number, times_at, named_at}
use Rattle.parts_codec.specs.declared.plain.PlainPoint.{PlainPoint}
use Rattle.parts_codec.specs.declared.plain.PlainApplied.{PlainApplied}
use Rattle.parts_codec.specs.declared.plain.PlainCentre.{PlainCentre}

-- any number of one byte, of four and of eight
abbrev pub byte_at : List ℕ → Reading ℕ
byte_at bytes = front (number w8 0 255) bytes

abbrev pub half_at : List ℕ → Reading ℕ
half_at bytes = front (number w32 0 4294967295) bytes

abbrev pub number_at : List ℕ → Reading ℕ
number_at bytes = front any_number bytes

unfoldable pub flag_at : List ℕ → Reading Bool
flag_at bytes = do
  flag ← front (number w8 0 1) bytes
  Some (flag.0 == 1, flag.1)

-- a list, behind how many it has
unfoldable pub list_at : {A : Type 0} → (List ℕ → Reading A) → List ℕ → Reading (List A)
list_at way bytes = do
  count ← number_at bytes
  times_at way count.0 count.1

unfoldable pub vector_at : List ℕ → Reading (List ℕ)
vector_at bytes = do
  width ← front (number w8 1 MOST_CENTRES) bytes
  times_at half_at width.0 width.1

unfoldable pub stamp_at : List ℕ → Reading Stamp
stamp_at bytes = do
  centre ← byte_at bytes
  seq ← half_at centre.1
  Some (record { centre = centre.0; seq = seq.0 }, seq.1)

unfoldable pub noted_at : List ℕ → Reading Noted
noted_at bytes = do
  client ← half_at bytes
  count ← number_at client.1
  stamp ← stamp_at count.1
  Some (record { client = client.0; number = count.0; stamp = stamp.0 }, stamp.1)

unfoldable pub folded_at : List ℕ → Reading Folded
folded_at bytes = do
  client ← half_at bytes
  count ← number_at client.1
  Some (record { client = client.0; number = count.0 }, count.1)

-- a frame of the written version
unfoldable pub framed_at : List ℕ → Reading Item
framed_at bytes = do
  item ← (front frame bytes >>= λ x. if x.0.0 == VERSION then Some x else None)
  Some (item.0.1, item.1)

-- what was picked, and the bytes behind it
abbrev pub with_rest : {A : Type 0} → Option A → List ℕ → Reading A
with_rest (Some x) rest = Some (x, rest)
with_rest None rest = None

-- the record in a frame, with its hops
abbrev pub sent_of : Item → Option Sent
sent_of (Rec item hops) = Some (record { item = item; hops = hops })
sent_of (Rep centre vector) = None

unfoldable pub sent_at : List ℕ → Reading Sent
sent_at bytes = do
  item ← framed_at bytes
  with_rest (sent_of item.0) item.1

-- the record is the first of centre 1, with no dependencies and no hops
abbrev pub is_bare : Record → ℕ → Bool
is_bare item hops = (hops == 0) && ((item.stamp.centre == 1) && ((item.stamp.seq == 1) && list_all (λ entry. entry == 0) item.deps))

-- the transaction that such a record carries
abbrev pub tx_of : Item → Option Tx
tx_of (Rec item hops) = if is_bare item hops then Some item.tx else None
tx_of (Rep centre vector) = None

unfoldable pub tx_at : List ℕ → Reading Tx
tx_at bytes = do
  item ← framed_at bytes
  with_rest (tx_of item.0) item.1

unfoldable pub rest_at : List ℕ → Reading RestPart
rest_at bytes = do
  tx ← tx_at bytes
  stamps ← list_at stamp_at tx.1
  Some (record { tx = tx.0; stamps = stamps.0 }, stamps.1)

unfoldable pub settings_at : List ℕ → Reading Settings
settings_at bytes = do
  me ← byte_at bytes
  n ← byte_at me.1
  k ← byte_at n.1
  limit ← number_at k.1
  Some (record { me = me.0; n = n.0; k = k.0; limit = limit.0 }, limit.1)

unfoldable pub point_at : List ℕ → Reading PlainPoint
point_at bytes = do
  vector ← vector_at bytes
  folded ← number_at vector.1
  numbers ← list_at folded_at folded.1
  states ← list_at named_at numbers.1
  Some (record { vector = vector.0; folded = folded.0; numbers = numbers.0; states = states.0 }, states.1)

unfoldable pub applied_at : List ℕ → Reading PlainApplied
applied_at bytes = do
  vector ← vector_at bytes
  top ← number_at vector.1
  notes ← list_at noted_at top.1
  point ← point_at notes.1
  rest ← list_at rest_at point.1
  Some (record { vector = vector.0; notes = notes.0; top = top.0; point = point.0; rest = rest.0 }, rest.1)

unfoldable pub centre_at : List ℕ → Reading PlainCentre
centre_at bytes = do
  settings ← settings_at bytes
  stopped ← flag_at settings.1
  mark ← vector_at stopped.1
  trimmed ← vector_at mark.1
  applied ← applied_at trimmed.1
  rows ← list_at vector_at applied.1
  outbox ← list_at (list_at sent_at) rows.1
  Some (record { settings = settings.0; applied = applied.0; rows = rows.0; mark = mark.0; trimmed = trimmed.0; outbox = outbox.0; stopped = stopped.0 }, outbox.1)
