-- States that were served, each of an object at a vector, kept so that a later one is not folded from the point again.
use Rattle.std.specs.Prelude.{◌≡◌, ◌≤◌, ◌⊎◌, ℕ, Bool, true, ◌&&◌, not, List, length, take, Option, Some, None, IfSome}
use Rattle.std.specs.Map.{lookup}
use Rattle.std.specs.BTreeMap.{is_at}
use Rattle.list_core.specs.Members.{In}
use Rattle.ids_core.specs.declared.object.ObjectId.{ObjectId}
use Rattle.ids_core.specs.Orders.{object_cmp}
use Rattle.vv_core.specs.Vectors.{Covers}
use Rattle.op_log.specs.declared.chains.Cell.{Cell}
use Rattle.op_log.specs.declared.logged.Logged.{Logged}
use Rattle.op_log.specs.Logs.{LogView, chain_of, is_inside_at}
use Rattle.check_point.specs.Points.{PointView}
use Rattle.point_log.specs.declared.served.Served.{Served}
use Rattle.point_log.specs.StandFor.{state_told}

-- whether the operation's transaction has a stamp within the later vector, and none within the one before
abbrev pub is_since : List ℕ → List ℕ → List Logged → Cell → Bool
is_since before w items c = is_inside_at w c.tx items && not (is_inside_at before c.tx items)

-- the operations are of transactions with a stamp within the vector
abbrev pub AreInside : List ℕ → List Logged → List Cell → Type 0
AreInside w items cells = (c : Cell) → In c cells → is_inside_at w c.tx items ≡ true

-- the state is that of the object at its vector, which covers the point's, and so many of the first operations of
-- the object's chain are within it
pub record IsServed (point : PointView) (kept : LogView) (o : ObjectId) (s : Served) : Type 0 where
  pub told : s.state ≡ state_told point kept o s.at
  pub wide : length s.at ≡ length point.vector
  pub above : Covers s.at point.vector
  pub few : s.done ≤ length (chain_of o kept.items)
  pub first : AreInside s.at kept.items (take s.done (chain_of o kept.items))

-- objects with a served state each
abbrev pub ServedEntries : Type 0
ServedEntries = List (ObjectId × Served)

-- what is kept of an object
abbrev pub served_of : ServedEntries → ObjectId → Option Served
served_of entries o = lookup (is_at (object_cmp o)) entries

-- what is kept of each object is a state at a vector, and no vector passes the counts
pub record AreServed (counts : List ℕ) (point : PointView) (kept : LogView) (entries : ServedEntries) : Type 0 where
  pub states : (o : ObjectId) → IfSome (served_of entries o) (IsServed point kept o)
  pub here : (o : ObjectId) → IfSome (served_of entries o) (λ s. Covers counts s.at)

-- of each object the state is kept that was put there, what was kept before, or nothing
abbrev pub IsPut : ServedEntries → ServedEntries → ObjectId → Served → Type 0
IsPut old new o s = (q : ObjectId) → ((q ≡ o) × (served_of new q ≡ Some s)) ⊎ (served_of new q ≡ served_of old q) ⊎ (served_of new q ≡ None)
