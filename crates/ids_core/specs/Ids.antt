-- Which dots and which objects are the same.
use Rattle.std.specs.Prelude.{Bool, true, false, ◌==◌, ◌&&◌}
use Rattle.std.specs.Str.{bytes_eq}
use Rattle.ids_core.specs.declared.ids.Dot.{Dot}
use Rattle.ids_core.specs.declared.object.Sort.{Sort}
use Rattle.ids_core.specs.declared.object.Sort.TheVariants.{Counter, Register, Set, Map}
use Rattle.ids_core.specs.declared.object.ObjectId.{ObjectId}

-- the same client and number
abbrev pub same_dot : Dot → Dot → Bool
same_dot a b = (a.client == b.client) && (a.number == b.number)

-- the same kind
abbrev pub same_sort : Sort → Sort → Bool
same_sort Counter Counter = true
same_sort Register Register = true
same_sort Set Set = true
same_sort Map Map = true
same_sort _ _ = false

-- the same kind and name
abbrev pub same_object : ObjectId → ObjectId → Bool
same_object a b = same_sort a.sort b.sort && bytes_eq a.name b.name
