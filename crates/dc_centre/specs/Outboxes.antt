-- The records that a centre has applied and did not let go yet, by their origin, which is counted from 1.
use Rattle.std.specs.Prelude.{◌≡◌, ℕ, ◌-◌, ◌≤◌, ◌<◌, length, drop, List, [], ◌∷◌, ◌++◌, slice_index_or, slice_set}
use Rattle.ids_core.specs.declared.limits.TheConstants.{MOST_CENTRES}
use Rattle.vv_core.specs.Vectors.{at}
use Rattle.dc_talk.specs.declared.sent.Sent.{Sent}
use Rattle.dc_talk.specs.Sents.{of_origin}

-- the records of each origin, and for how many more of each there is room
pub record OutboxView : Type 0 where
  pub rows : List (List Sent)
  pub room : List ℕ

-- the records of an origin
abbrev pub row_of : List (List Sent) → ℕ → List Sent
row_of rows e = slice_index_or rows (e - 1) []

-- the room for more of them
abbrev pub room_of : List ℕ → ℕ → ℕ
room_of room e = slice_index_or room (e - 1) 0

-- a record is put behind those of its origin
abbrev pub put_by : List (List Sent) → Sent → List (List Sent)
put_by rows x = slice_set rows (x.item.stamp.centre - 1) (row_of rows x.item.stamp.centre ++ x ∷ [])

-- of each of n origins the first so many go as the entry rises from one vector to the other, and of no other one any goes
pub record HasTrimmed (n : ℕ) (low high : List ℕ) (old new : List (List Sent)) : Type 0 where
  pub long : length new ≡ length old
  pub each : (e : ℕ) → 1 ≤ e → e ≤ n → row_of new e ≡ drop (at high e - at low e) (row_of old e)
  pub others : (e : ℕ) → n < e → row_of new e ≡ row_of old e

-- the rows hold just the applied records of each of n origins above trimmed's entry, and none of any other origin
pub record Keeps (n : ℕ) (rows : List (List Sent)) (trimmed : List ℕ) (C : List Sent) : Type 0 where
  pub long : length rows ≡ MOST_CENTRES
  pub each : (e : ℕ) → 1 ≤ e → e ≤ n → row_of rows e ≡ drop (at trimmed e) (of_origin e C)
  pub few : (e : ℕ) → 1 ≤ e → e ≤ n → at trimmed e ≤ length (of_origin e C)
  pub none : (e : ℕ) → n < e → row_of rows e ≡ []
