-- A point taken apart: its vector and its count, and what it knows of clients and objects, in their order.
use Rattle.std.specs.Prelude.{◌≡◌, ◌==◌, ℕ, List, map}
use Rattle.std.specs.Map.{lookup}
use Rattle.std.specs.List.Sorted.{IsStrictlySortedBy}
use Rattle.std.specs.Ordering.{nat_cmp}
use Rattle.ids_core.specs.declared.object.ObjectId.{ObjectId}
use Rattle.ids_core.specs.Ids.{same_object}
use Rattle.ids_core.specs.Orders.{object_cmp}
use Rattle.tx_core.specs.declared.part.StatePart.{StatePart}
use Rattle.check_point.specs.declared.part.Folded.{Folded}
use Rattle.check_point.specs.declared.part.PointParts.{PointParts}
use Rattle.check_point.specs.Points.{PointView, StateEntries, NumberEntries}

-- the objects of the parts with their states
abbrev pub state_entries : List StatePart → StateEntries
state_entries parts = map (λ (p : StatePart). (p.object, p.state)) parts

-- the clients of the parts with their numbers
abbrev pub number_entries : List Folded → NumberEntries
number_entries parts = map (λ (p : Folded). (p.client, p.number)) parts

-- the objects ascend
abbrev pub AscendByObject : List StatePart → Type 0
AscendByObject parts = IsStrictlySortedBy object_cmp (map (λ (p : StatePart). p.object) parts)

-- the clients ascend
abbrev pub AscendByClient : List Folded → Type 0
AscendByClient parts = IsStrictlySortedBy nat_cmp (map (λ (p : Folded). p.client) parts)

-- the states of the objects are those of the entries, and no other object has one
abbrev pub HasStates : StateEntries → List StatePart → Type 0
HasStates entries parts = (o : ObjectId) → lookup (same_object o) (state_entries parts) ≡ lookup (same_object o) entries

-- the numbers of the clients are those of the entries, and no other client has one
abbrev pub HasNumbers : NumberEntries → List Folded → Type 0
HasNumbers entries parts = (client : ℕ) → lookup (λ c. client == c) (number_entries parts) ≡ lookup (λ c. client == c) entries

-- parts of which a point can be made
pub record AreParts (parts : PointParts) : Type 0 where
  pub clients : AscendByClient parts.numbers
  pub objects : AscendByObject parts.states

-- the parts are those of the point
pub record ArePartsOf (point : PointView) (parts : PointParts) : Type 0 where
  pub vector : parts.vector ≡ point.vector
  pub folded : parts.folded ≡ point.folded
  pub numbers : HasNumbers point.numbers parts.numbers
  pub states : HasStates point.states parts.states
