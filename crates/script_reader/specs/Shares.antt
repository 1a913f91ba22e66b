-- Bounded counters and their cells, as a script spells them.
use Rattle.std.specs.Prelude.{◌==◌, ◌&&◌, ℕ, Bool, nat_le, List, length, drop, slice_index, Option, Some, None, Result, Ok, Err, if◌then◌else◌}
use Rattle.ids_core.specs.Ids.{same_sort}
use Rattle.ids_core.specs.declared.object.ObjectId.{ObjectId}
use Rattle.ids_core.specs.declared.object.Sort.TheVariants.{Counter}
use Rattle.obj_bounded.specs.declared.cell_names.TheConstants.{MOST_BOUNDED_NAME}
use Rattle.script_core.specs.Steps.{is_cell_name}
use Rattle.script_reader.specs.declared.fault.Cause.{Cause}
use Rattle.script_reader.specs.declared.fault.Cause.TheVariants.{Name}
use Rattle.script_reader.specs.Names.{is_name, object_named}

-- a name that is short enough for those of the cells of a bounded counter
abbrev pub is_bounded_name : List ℕ → Bool
is_bounded_name name = nat_le (length name) MOST_BOUNDED_NAME && is_name name

-- the name of the bounded counter that a word names by a `b`, a full stop and the name
unfoldable pub bounded_in : List ℕ → Result (List ℕ) Cause
bounded_in word =
    if slice_index word 0 == 98 && (slice_index word 1 == 46 && is_bounded_name (drop 2 word)) then Ok (drop 2 word) else Err Name

-- an object that may be a cell of a bounded counter
abbrev pub is_cell : ObjectId → Bool
is_cell object = same_sort object.sort Counter && is_cell_name object.name

-- an object to which may be added: none that may be such a cell
abbrev pub unless_cell : Option ObjectId → Result ObjectId Cause
unless_cell (Some object) = if is_cell object then Err Name else Ok object
unless_cell None = Err Name

-- the object that a word names, where it may be added to
abbrev pub summand_in : List ℕ → Result ObjectId Cause
summand_in word = unless_cell (object_named word)
