-- Live cells apart from those that are owed their adds.
use Rattle.std.specs.Prelude.{◌≡◌, Bool, true, false, ◌&&◌, not, List, ◌++◌, Option, Some, None, is_some}
use Rattle.std.specs.Map.{lookup}
use Rattle.std.specs.BTreeMap.{is_at}
use Rattle.tally_core.specs.declared.place.Place.{Place}
use Rattle.tally_core.specs.declared.place.Cell.{Cell}
use Rattle.tally_core.specs.declared.parted.Parted.{Parted}
use Rattle.tally_core.specs.Places.{place_cmp}
use Rattle.tally_core.specs.Cells.{Tallied, seen}
use Rattle.tally_core.specs.Live.{is_live}

module _ {P : Type 0} where
  -- a cell that is owed an add: no live one, which keeps nothing
  abbrev pub is_owed : Cell P → Bool
  is_owed c = not (is_live c) && not (is_some c.kept)

  -- a live cell, which keeps something
  abbrev pub is_kept : Cell P → Bool
  is_kept c = is_live c && is_some c.kept

  -- of the live cells and of the owed ones, what stands at a place is in its own part, and never in both
  abbrev pub is_apart : Option (Cell P) → Option (Cell P) → Bool
  is_apart None None = true
  is_apart None (Some c) = is_owed c
  is_apart (Some c) None = is_kept c
  is_apart (Some c) (Some d) = false

  -- each place has a live cell, or one that is owed an add, or none
  abbrev pub AreApart : List (Place × Cell P) → List (Place × Cell P) → Type 0
  AreApart live owed = (p : Place) → is_apart (lookup (is_at (place_cmp p)) live) (lookup (is_at (place_cmp p)) owed) ≡ true

  -- the cells are in their parts
  abbrev pub IsParted : Parted P → Type 0
  IsParted cells = AreApart cells.live.entries cells.owed.entries

  -- what the cells of both parts say
  abbrev pub seen_of : Parted P → Tallied P
  seen_of cells = seen (cells.live.entries ++ cells.owed.entries)
