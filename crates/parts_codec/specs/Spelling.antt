-- The bytes of a centre, one part behind the other, and which centres have them. Numbers have their greatest byte first, and as
-- many bytes as their type. Lists stand behind how many they have, in eight bytes, and the entries of a vector behind its width,
-- in one byte. A record of the outbox is its frame, with its hops. A transaction that is not folded is the frame of a record
-- that carries it, the first of centre 1, with no dependencies and no hops; its stamps follow.
use Rattle.std.specs.Prelude.{◌≤◌, ◌<◌, ◌^◌, ℕ, Bool, true, false, List, [], ◌∷◌, ◌++◌, length, All}
use Rattle.std.specs.List.{flat_map}
use Rattle.ids_core.specs.declared.limits.TheConstants.{MOST_CENTRES}
use Rattle.vv_core.specs.declared.stamp.Stamp.{Stamp}
use Rattle.tx_core.specs.declared.tx.Tx.{Tx}
use Rattle.tx_core.specs.declared.part.RestPart.{RestPart}
use Rattle.dc_talk.specs.declared.sent.Sent.{Sent}
use Rattle.dc_talk.specs.declared.settings.Settings.{Settings}
use Rattle.dup_guard.specs.declared.noted.Noted.{Noted}
use Rattle.check_point.specs.declared.part.Folded.{Folded}
use Rattle.wire_codec.specs.declared.item.Item.{Item}
use Rattle.wire_codec.specs.declared.item.Item.TheVariants.{Rec}
use Rattle.wire_codec.specs.declared.item.TheConstants.{VERSION}
use Rattle.wire_codec.specs.Spelling.{u32_bytes, u64_bytes, spelled, IsSpelled}
use Rattle.state_codec.specs.Spelling.{list_bytes, part_bytes, IsSpelledPart}
use Rattle.journal_asks.specs.Spellings.{commit_of}
use Rattle.parts_codec.specs.declared.plain.PlainPoint.{PlainPoint}
use Rattle.parts_codec.specs.declared.plain.PlainApplied.{PlainApplied}
use Rattle.parts_codec.specs.declared.plain.PlainCentre.{PlainCentre}

-- ---- bytes

-- a number of one byte
abbrev pub u8_bytes : ℕ → List ℕ
u8_bytes n = n ∷ []

-- 1 for true, 0 for false
abbrev pub flag_bytes : Bool → List ℕ
flag_bytes false = 0 ∷ []
flag_bytes true = 1 ∷ []

-- the width, and each entry
abbrev pub vector_bytes : List ℕ → List ℕ
vector_bytes vector = length vector ∷ flat_map u32_bytes vector

-- the centre, and the place among its transactions
abbrev pub stamp_bytes : Stamp → List ℕ
stamp_bytes stamp = stamp.centre ∷ u32_bytes stamp.seq

-- the client, the number, and the stamp
abbrev pub noted_bytes : Noted → List ℕ
noted_bytes note = u32_bytes note.client ++ u64_bytes note.number ++ stamp_bytes note.stamp

-- the client, and the number
abbrev pub folded_bytes : Folded → List ℕ
folded_bytes folded = u32_bytes folded.client ++ u64_bytes folded.number

-- the frame
abbrev pub frame_bytes : Item → List ℕ
frame_bytes frame = spelled VERSION frame

-- the frame of a record of the outbox
abbrev pub frame_of : Sent → Item
frame_of sent = Rec sent.item sent.hops

-- that frame
abbrev pub sent_bytes : Sent → List ℕ
sent_bytes sent = frame_bytes (frame_of sent)

-- the frame of a record that carries the transaction
abbrev pub tx_bytes : Tx → List ℕ
tx_bytes tx = frame_bytes (commit_of 1 tx)

-- the transaction, and its stamps
abbrev pub rest_bytes : RestPart → List ℕ
rest_bytes part = tx_bytes part.tx ++ list_bytes stamp_bytes part.stamps

-- its number, how many centres there are, how many make stable, and how many transactions it may stamp
abbrev pub settings_bytes : Settings → List ℕ
settings_bytes s = s.me ∷ s.n ∷ s.k ∷ u64_bytes s.limit

-- the vector, how many are folded, the numbers of the clients, and the states
abbrev pub point_bytes : PlainPoint → List ℕ
point_bytes point = vector_bytes point.vector ++ u64_bytes point.folded ++ list_bytes folded_bytes point.numbers ++ list_bytes part_bytes point.states

-- the vector, the greatest rank, the notes, the point, and the rest
abbrev pub applied_bytes : PlainApplied → List ℕ
applied_bytes applied =
    vector_bytes applied.vector ++ u64_bytes applied.top ++ list_bytes noted_bytes applied.notes ++ point_bytes applied.point
    ++ list_bytes rest_bytes applied.rest

-- the settings, whether it is stopped, the mark, what was let go, what it applied, what it was told, and the outbox
abbrev pub centre_bytes : PlainCentre → List ℕ
centre_bytes centre =
    settings_bytes centre.settings ++ flag_bytes centre.stopped ++ vector_bytes centre.mark ++ vector_bytes centre.trimmed
    ++ applied_bytes centre.applied ++ list_bytes vector_bytes centre.rows ++ list_bytes (list_bytes sent_bytes) centre.outbox

-- ---- which have bytes

-- a number of one byte, of four and of eight
abbrev pub IsByte : ℕ → Type 0
IsByte n = n < 2 ^ 8

abbrev pub IsHalf : ℕ → Type 0
IsHalf n = n < 2 ^ 32

abbrev pub IsNumber : ℕ → Type 0
IsNumber n = n < 2 ^ 64

-- true or false
abbrev pub IsFlag : Bool → Type 0
IsFlag flag = Unit {0}

-- a list that can be counted, of what has bytes
pub record IsSpelledList {A : Type 0} (Is : A → Type 0) (xs : List A) : Type 0 where
  pub few : IsNumber (length xs)
  pub each : All Is xs

-- an entry for each of 1 to 8 centres
pub record IsSpelledVector (vector : List ℕ) : Type 0 where
  pub wide : (1 ≤ length vector) × (length vector ≤ MOST_CENTRES)
  pub each : All IsHalf vector

-- the centre and the place are in range
abbrev pub IsSpelledStamp : Stamp → Type 0
IsSpelledStamp stamp = IsByte stamp.centre × IsHalf stamp.seq

-- so are client, number and stamp
pub record IsSpelledNoted (note : Noted) : Type 0 where
  pub client : IsHalf note.client
  pub number : IsNumber note.number
  pub stamp : IsSpelledStamp note.stamp

-- so are client and number
abbrev pub IsSpelledFolded : Folded → Type 0
IsSpelledFolded folded = IsHalf folded.client × IsNumber folded.number

-- the frame has bytes
abbrev pub IsFrame : Item → Type 0
IsFrame frame = IsSpelled VERSION frame

-- a record whose frame has bytes
abbrev pub IsSpelledSent : Sent → Type 0
IsSpelledSent sent = IsFrame (frame_of sent)

-- a transaction whose frame has bytes
abbrev pub IsSpelledTx : Tx → Type 0
IsSpelledTx tx = IsFrame (commit_of 1 tx)

-- a transaction and stamps that have bytes
abbrev pub IsSpelledRest : RestPart → Type 0
IsSpelledRest part = IsSpelledTx part.tx × IsSpelledList IsSpelledStamp part.stamps

-- settings whose numbers are in range
pub record IsSpelledSettings (s : Settings) : Type 0 where
  pub me : IsByte s.me
  pub n : IsByte s.n
  pub k : IsByte s.k
  pub limit : IsNumber s.limit

-- a point whose parts have bytes
pub record IsSpelledPoint (point : PlainPoint) : Type 0 where
  pub vector : IsSpelledVector point.vector
  pub folded : IsNumber point.folded
  pub numbers : IsSpelledList IsSpelledFolded point.numbers
  pub states : IsSpelledList IsSpelledPart point.states

-- what was applied, whose parts have bytes
pub record IsSpelledApplied (applied : PlainApplied) : Type 0 where
  pub vector : IsSpelledVector applied.vector
  pub top : IsNumber applied.top
  pub notes : IsSpelledList IsSpelledNoted applied.notes
  pub point : IsSpelledPoint applied.point
  pub rest : IsSpelledList IsSpelledRest applied.rest

-- a centre whose parts have bytes
pub record IsSpelledCentre (centre : PlainCentre) : Type 0 where
  pub settings : IsSpelledSettings centre.settings
  pub mark : IsSpelledVector centre.mark
  pub trimmed : IsSpelledVector centre.trimmed
  pub applied : IsSpelledApplied centre.applied
  pub rows : IsSpelledList IsSpelledVector centre.rows
  pub outbox : IsSpelledList (IsSpelledList IsSpelledSent) centre.outbox
