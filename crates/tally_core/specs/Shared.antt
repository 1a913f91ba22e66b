-- Cells that copies share.
use Rattle.std.specs.Prelude.{List, [], Option, Some, None}
use Rattle.tally_core.specs.declared.place.Place.{Place}
use Rattle.tally_core.specs.declared.place.Cell.{Cell}
use Rattle.tally_core.specs.declared.parted.Parted.{Parted}

module _ {P : Type 0} where
  -- the entries of the live cells, where there are any
  abbrev pub live_of : Option (Parted P) → List (Place × Cell P)
  live_of None = []
  live_of (Some cells) = cells.live.entries

  -- the entries of the owed cells, where there are any
  abbrev pub owed_of : Option (Parted P) → List (Place × Cell P)
  owed_of None = []
  owed_of (Some cells) = cells.owed.entries
