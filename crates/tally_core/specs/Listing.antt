-- Tallies as the list of their entries.
use Rattle.std.specs.Prelude.{◌≡◌, pos, int_lt, Bool, true, false, cond, ◌&&◌, not, List, [], ◌∷◌, is_some, All}
use Rattle.std.specs.Ordering.{is_lt}
use Rattle.std.specs.List.Sorted.{IsStrictlySortedBy}
use Rattle.std.specs.Map.{keys_of}
use Rattle.tally_core.specs.declared.place.Place.{Place}
use Rattle.tally_core.specs.declared.place.Cell.{Cell}
use Rattle.tally_core.specs.Places.{place_cmp}
use Rattle.tally_core.specs.Cells.{is_nothing}
use Rattle.tally_core.specs.Live.{is_live}

module _ {P : Type 0} where
  -- a live cell that keeps something, or one with a tally below 0 that keeps nothing
  abbrev pub is_stored : Cell P → Bool
  is_stored c = cond (is_live c) (is_some c.kept) (int_lt c.count (pos 0) && not (is_some c.kept))

  -- something is stored there
  abbrev pub is_there : Cell P → Bool
  is_there c = not (is_nothing c)

  -- the cell is a live one, or else it is none
  abbrev pub is_of : Bool → Cell P → Bool
  is_of true c = is_live c
  is_of false c = not (is_live c)

  -- the first place is above low, and each is below the next
  abbrev pub ascend_from : Place → List (Place × Cell P) → Bool
  ascend_from low [] = true
  ascend_from low (e ∷ es) = is_lt (place_cmp low e.0) && ascend_from e.0 es

  -- each place is below the next
  abbrev pub ascend : List (Place × Cell P) → Bool
  ascend [] = true
  ascend (e ∷ es) = ascend_from e.0 es

  -- the entries of tallies
  pub record AreStored (list : List (Place × Cell P)) : Type 0 where
    pub ascending : IsStrictlySortedBy place_cmp (keys_of list)
    pub each : All (λ e. is_stored e.1 ≡ true) list
