-- How many of the first operations of an object are known to be within a vector, kept so that they are not looked at again.
use Rattle.std.specs.Prelude.{◌≡◌, ◌≤◌, ◌⊎◌, ℕ, List, length, take, Option, Some, None, IfSome}
use Rattle.std.specs.Map.{lookup}
use Rattle.std.specs.BTreeMap.{is_at}
use Rattle.ids_core.specs.declared.object.ObjectId.{ObjectId}
use Rattle.ids_core.specs.Orders.{object_cmp}
use Rattle.op_log.specs.Logs.{LogView, chain_of}
use Rattle.point_log.specs.Served.{AreInside}
use Rattle.object_delta.specs.declared.passed.Passed.{Passed}

-- so many of the first operations of the object's chain are within the vector, which has n entries
pub record IsPassed (n : ℕ) (kept : LogView) (o : ObjectId) (p : Passed) : Type 0 where
  pub wide : length p.at ≡ n
  pub few : p.done ≤ length (chain_of o kept.items)
  pub first : AreInside p.at kept.items (take p.done (chain_of o kept.items))

-- objects, each with what is known of it
abbrev pub PassedEntries : Type 0
PassedEntries = List (ObjectId × Passed)

-- what is kept of an object
abbrev pub passed_of : PassedEntries → ObjectId → Option Passed
passed_of entries o = lookup (is_at (object_cmp o)) entries

-- what is kept of each object is known of it
abbrev pub ArePassed : ℕ → LogView → PassedEntries → Type 0
ArePassed n kept entries = (o : ObjectId) → IfSome (passed_of entries o) (IsPassed n kept o)

-- of each object what was put there is kept, what was kept before, or nothing
abbrev pub IsPassedPut : PassedEntries → PassedEntries → ObjectId → Passed → Type 0
IsPassedPut old new o p = (q : ObjectId) → ((q ≡ o) × (passed_of new q ≡ Some p)) ⊎ (passed_of new q ≡ passed_of old q) ⊎ (passed_of new q ≡ None)
