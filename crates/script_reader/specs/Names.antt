-- Names and objects, as a script spells them.
use Rattle.std.specs.Prelude.{◌==◌, ◌&&◌, ◌||◌, ℕ, Bool, nat_le, List, length, drop, slice_index, Option, Some, None, option_map, if◌then◌else◌}
use Rattle.std.specs.List.{list_all}
use Rattle.ids_core.specs.declared.object.ObjectId.{ObjectId}
use Rattle.ids_core.specs.declared.object.Sort.{Sort}
use Rattle.ids_core.specs.declared.object.Sort.TheVariants.{Counter, Register, Set, Map}

-- a to z, 0 to 9 and _
abbrev pub is_name_byte : ℕ → Bool
is_name_byte b = (nat_le 97 b && nat_le b 122) || ((nat_le 48 b && nat_le b 57) || b == 95)

-- 1 to 32 such bytes
abbrev pub is_name : List ℕ → Bool
is_name word = list_all is_name_byte word && (nat_le 1 (length word) && nat_le (length word) 32)

-- the kind of objects that a letter marks
abbrev pub sort_marked : ℕ → Option Sort
sort_marked b = if b == 99 then Some Counter else (if b == 114 then Some Register else (if b == 115 then Some Set else (if b == 109 then Some Map else None)))

-- the object that a word names: the letter of its kind, a full stop and its name
unfoldable pub object_named : List ℕ → Option ObjectId
object_named word =
    if slice_index word 1 == 46 && is_name (drop 2 word) then option_map (λ sort. record { sort = sort; name = drop 2 word }) (sort_marked (slice_index word 0)) else None
