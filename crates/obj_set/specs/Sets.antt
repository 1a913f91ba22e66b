-- The state of a set, and what it is after its operations.
use Rattle.std.specs.Prelude.{ℕ, cond, List, Some, None}
use Rattle.std.specs.Coded.{Coded}
use base.Stored.{coded_unit}
use Rattle.std.specs.FinMap.{code, empty}
use Rattle.ids_core.specs.declared.ids.Mark.{Mark}
use Rattle.tally_core.specs.Places.{place_code}
use Rattle.tally_core.specs.Cells.{Tallied, cell_code}
use Rattle.tally_core.specs.Changes.{Change, IsTallyOf, step as changed}
use Rattle.obj_set.specs.declared.set.SetOp.{SetOp}

-- tallies of adds that keep nothing
abbrev pub Set : Type 0
Set = Tallied (Unit {0})

-- an add raises the tally of its own identifier, and each operation lowers those that it is over
abbrev pub does : (Mark × SetOp) → Change (Unit {0})
does op = record { name = op.1.word; add = cond op.1.adds (Some tt) None; over = op.1.over }

-- no tally
abbrev pub start : Set
start = empty

-- the set after one more operation
abbrev pub step : Set → (Mark × SetOp) → Set
step = changed does

-- each tally is plus one for each add of the identifier, minus one for each operation on the word that is over it
abbrev pub IsStateOf : List (Mark × SetOp) → Set → Type 0
IsStateOf = IsTallyOf does

-- a set is stored as the entries of its tallies
abbrev pub set_code : Coded Set
set_code = code place_code (cell_code coded_unit)
