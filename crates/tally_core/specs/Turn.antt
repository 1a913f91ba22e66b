-- What is left of one cell that is turned.
use Rattle.std.specs.Prelude.{◌≡◌, pos, Bool, false, cond, Option, Some, None, int_lt}
use Rattle.std.specs.BTreeMap.{BTreeMap, get, is_at}
use Rattle.tally_core.specs.declared.place.Place.{Place}
use Rattle.tally_core.specs.declared.place.Cell.{Cell}
use Rattle.tally_core.specs.Places.{place_cmp}
use Rattle.tally_core.specs.Cells.{is_nothing, turned}

module _ {P : Type 0} where
  -- the second map has w at the place, and at each other one what the first has
  abbrev pub Puts : BTreeMap Place (Cell P) → BTreeMap Place (Cell P) → Place → Option (Cell P) → Type 0
  Puts m n p w = (q : Place) → get place_cmp n q ≡ cond (is_at (place_cmp p) q) w (get place_cmp m q)

  -- what is left of a cell that is lowered
  abbrev pub lowered : Option (Cell P) → Option (Cell P)
  lowered None = None
  lowered (Some c) = cond (is_nothing (turned None c)) None (Some (turned None c))

  -- an add is owed: the tally is below 0
  abbrev pub owes : Option (Cell P) → Bool
  owes None = false
  owes (Some c) = int_lt c.count (pos 0)

  -- what is left of an owed cell once an add comes, which is nothing where none was owed
  abbrev pub repaid : P → Option (Cell P) → Option (Cell P)
  repaid p None = None
  repaid p (Some c) = cond (int_lt c.count (pos 0)) (Some (turned (Some p) c)) None
