-- Lists of items, found by their objects.
use Rattle.std.specs.Prelude.{ℕ, List, [], Option, Some, None, count_by}
use Rattle.std.specs.Map.{lookup}
use Rattle.std.specs.BTreeMap.{is_at}
use Rattle.ids_core.specs.declared.object.ObjectId.{ObjectId}
use Rattle.ids_core.specs.Ids.{same_object}
use Rattle.ids_core.specs.Orders.{object_cmp}
use Rattle.tx_core.specs.declared.tx.Update.{Update}

-- the items of a list, none where there is no list
abbrev pub items_of : {T : Type 0} → Option (List T) → List T
items_of None = []
items_of (Some items) = items

-- the items that are listed for an object
abbrev pub listed : {T : Type 0} → List (ObjectId × List T) → ObjectId → List T
listed lists o = items_of (lookup (is_at (object_cmp o)) lists)

-- how many of the updates are on the object
abbrev pub counted : ObjectId → List Update → ℕ
counted o updates = count_by (λ u. same_object u.object o) updates
