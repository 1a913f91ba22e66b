-- The bytes of the state of an object, and which states have them. Numbers have their greatest byte first.
use Rattle.std.specs.Prelude.{◌≡◌, ◌≤◌, ◌<◌, ◌/◌, ◌%◌, ◌^◌, ℕ, ℤ, pos, Bool, true, false, cond, int_lt, List, [], ◌∷◌, ◌++◌, length, All, Option, Some, None}
use Rattle.std.specs.Int.{w64, w128, cast_unsigned}
use Rattle.std.specs.Int.RustNames.{FitsSigned}
use Rattle.std.specs.List.{flat_map}
use Rattle.std.specs.Ordering.{int_eq}
use Rattle.ids_core.specs.declared.ids.Mark.{Mark}
use Rattle.ids_core.specs.declared.limits.TheConstants.{MOST_NUMBER}
use Rattle.ids_core.specs.Name.{IsName}
use Rattle.obj_register.specs.declared.register.RegisterOp.{RegisterOp}
use Rattle.obj_map.specs.declared.put.Put.{Put}
use Rattle.tally_core.specs.declared.place.Place.{Place}
use Rattle.tally_core.specs.declared.place.Cell.{Cell}
use Rattle.tally_core.specs.Listing.{ascend}
use Rattle.tx_core.specs.Checks.{IsTag}
use Rattle.wire_codec.specs.Spelling.{u64_bytes, name_bytes, tag_bytes, delta_bytes}
use Rattle.state_codec.specs.declared.state.PlainState.{PlainState}
use Rattle.state_codec.specs.declared.state.PlainPart.{PlainPart}
use Rattle.state_codec.specs.declared.state.PlainState.TheVariants.{Counter, Register, Set, Map}

-- ---- bytes

-- two's complement in 16 bytes: two numbers of eight
abbrev pub sum_bytes : ℤ → List ℕ
sum_bytes sum = u64_bytes (cast_unsigned w128 sum / 2 ^ 64) ++ u64_bytes (cast_unsigned w128 sum % 2 ^ 64)

-- 0 where there is no write; else 1, the rank, the identifier and the word
abbrev pub last_bytes : Option (Mark × RegisterOp) → List ℕ
last_bytes None = 0 ∷ []
last_bytes (Some write) = 1 ∷ (u64_bytes write.0.rank ++ tag_bytes write.0.id ++ name_bytes write.1.word)

-- the name, and the identifier under it
abbrev pub place_bytes : Place → List ℕ
place_bytes place = name_bytes place.name ++ tag_bytes place.id

-- the place, and the tally
abbrev pub member_bytes : (Place × Cell (Unit {0})) → List ℕ
member_bytes e = place_bytes e.0 ++ delta_bytes e.1.count

-- the rank and the word of a put that is kept
abbrev pub kept_bytes : Option Put → List ℕ
kept_bytes None = []
kept_bytes (Some put) = u64_bytes put.rank ++ name_bytes put.word

-- the place, the tally, and what is kept
abbrev pub entry_bytes : (Place × Cell Put) → List ℕ
entry_bytes e = place_bytes e.0 ++ delta_bytes e.1.count ++ kept_bytes e.1.kept

-- how many there are, and each
abbrev pub list_bytes : {A : Type 0} → (A → List ℕ) → List A → List ℕ
list_bytes spelling xs = u64_bytes (length xs) ++ flat_map spelling xs

-- the kind, and what the kind has
abbrev pub spelled : PlainState → List ℕ
spelled (Counter sum) = 1 ∷ sum_bytes sum
spelled (Register last) = 2 ∷ last_bytes last
spelled (Set tallies) = 3 ∷ list_bytes member_bytes tallies
spelled (Map tallies) = 4 ∷ list_bytes entry_bytes tallies

-- the name of the object, and its state
abbrev pub part_bytes : PlainPart → List ℕ
part_bytes part = name_bytes part.name ++ spelled part.state

-- ---- which states have bytes

-- a rank
abbrev pub IsRank : ℕ → Type 0
IsRank rank = (1 ≤ rank) × (rank ≤ MOST_NUMBER)

-- nothing, or a write whose numbers are in range
abbrev pub IsSpelledLast : Option (Mark × RegisterOp) → Type 0
IsSpelledLast None = Unit {0}
IsSpelledLast (Some write) = IsRank write.0.rank × IsTag write.0.id × IsName write.1.word

-- a name, and an identifier in range
abbrev pub IsSpelledPlace : Place → Type 0
IsSpelledPlace place = IsName place.name × IsTag place.id

-- a number of 64 bits that is not 0
abbrev pub IsTally : ℤ → Type 0
IsTally count = FitsSigned w64 count × (int_eq count (pos 0) ≡ false)

-- a tally of a set, which says that it is live where it is 1 or more
pub record IsSpelledMember (e : Place × Cell (Unit {0})) : Type 0 where
  pub place : IsSpelledPlace e.0
  pub count : IsTally e.1.count
  pub kept : e.1.kept ≡ cond (int_lt (pos 0) e.1.count) (Some tt) None

-- a put is kept exactly where it is live
abbrev pub IsSpelledKept : Bool → Option Put → Type 0
IsSpelledKept live None = live ≡ false
IsSpelledKept live (Some put) = (live ≡ true) × IsRank put.rank × IsName put.word

-- a tally of a map, which keeps the put where it is 1 or more
pub record IsSpelledEntry (e : Place × Cell Put) : Type 0 where
  pub place : IsSpelledPlace e.0
  pub count : IsTally e.1.count
  pub kept : IsSpelledKept (int_lt (pos 0) e.1.count) e.1.kept

-- tallies whose places ascend
pub record AreTallies {P : Type 0} (Is : (Place × Cell P) → Type 0) (tallies : List (Place × Cell P)) : Type 0 where
  pub few : length tallies < 2 ^ 64
  pub each : All Is tallies
  pub ascending : ascend tallies ≡ true

-- the state has bytes
abbrev pub IsSpelled : PlainState → Type 0
IsSpelled (Counter sum) = FitsSigned w128 sum
IsSpelled (Register last) = IsSpelledLast last
IsSpelled (Set tallies) = AreTallies IsSpelledMember tallies
IsSpelled (Map tallies) = AreTallies IsSpelledEntry tallies

-- an object whose name is one, and whose state has bytes
abbrev pub IsSpelledPart : PlainPart → Type 0
IsSpelledPart part = IsName part.name × IsSpelled part.state
