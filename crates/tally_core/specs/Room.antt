-- Where a cell can be changed with no want of memory.
use Rattle.std.specs.Prelude.{◌≡◌, ℕ, ℤ, pos, negsuc, Bool, true, false, List, Option, Some, None, int_lt}
use Rattle.std.specs.BTreeMap.{get}
use Rattle.list_core.specs.Members.{In}
use Rattle.ids_core.specs.declared.ids.OpId.{OpId}
use Rattle.tally_core.specs.declared.place.Place.{Place}
use Rattle.tally_core.specs.declared.place.Cell.{Cell}
use Rattle.tally_core.specs.declared.parted.Parted.{Parted}
use Rattle.tally_core.specs.Places.{place, place_cmp}
use Rattle.tally_core.specs.Cells.{is_nothing}

-- the tally can rise, or fall, within `i64`
abbrev pub is_within : Bool → ℤ → Bool
is_within true count = int_lt count (pos 9223372036854775807)
is_within false count = int_lt (negsuc 9223372036854775807) count

module _ {P : Type 0} where
  -- of what stands among the live cells and among the owed ones: a live cell, or one whose tally can fall
  abbrev pub can_fall : Option (Cell P) → Option (Cell P) → Bool
  can_fall (Some c) owed = true
  can_fall None None = false
  can_fall None (Some c) = is_within false c.count

  -- the tally at the place can fall
  abbrev pub CanFall : Parted P → Place → Type 0
  CanFall cells p = can_fall (get place_cmp cells.live p) (get place_cmp cells.owed p) ≡ true

  -- each identifier under the name can be lowered
  abbrev pub CanLower : Parted P → List ℕ → List OpId → Type 0
  CanLower cells name over = (id : OpId) → In id over → CanFall cells (place name id)

  -- a cell of 0 stands
  abbrev pub is_empty : Option (Cell P) → Bool
  is_empty None = false
  is_empty (Some c) = is_nothing c
