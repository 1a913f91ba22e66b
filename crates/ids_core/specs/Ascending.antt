-- Which lists of identifiers ascend.
use Rattle.std.specs.Prelude.{Bool, true, ◌&&◌, List, [], ◌∷◌, IsTrue}
use Rattle.std.specs.Ordering.{is_lt}
use Rattle.ids_core.specs.declared.ids.OpId.{OpId}
use Rattle.ids_core.specs.Orders.{id_cmp}

-- the first is above low, and each is below the next
abbrev pub ascends_from : OpId → List OpId → Bool
ascends_from low [] = true
ascends_from low (id ∷ ids) = is_lt (id_cmp low id) && ascends_from id ids

-- each is below the next
abbrev pub ascends : List OpId → Bool
ascends [] = true
ascends (id ∷ ids) = ascends_from id ids

-- strictly ascending
abbrev pub IsAscending : List OpId → Type 0
IsAscending ids = IsTrue (ascends ids)
