-- The rights of a holder of a bounded counter (Balegas and others, SRDS 2015) over transactions of a graph: what cells
-- that count for it have, less what cells that count against it have, each cell a counter.
use Rattle.std.specs.Prelude.{◌≡◌, ℕ, ◌<◌, ℤ, pos, ◌+ℤ◌, ◌-ℤ◌, ◌≤ℤ◌, ◌⊎◌, true, List, ◌∷◌, ◌++◌}
use Rattle.std.specs.Option.{unwrap_or}
use Rattle.list_core.specs.Members.{In}
use Rattle.ids_core.specs.declared.ids.Dot.{Dot}
use Rattle.ids_core.specs.declared.object.ObjectId.{ObjectId}
use Rattle.ids_core.specs.Ids.{same_object}
use Rattle.obj_counter.specs.Counter.{total}
use Rattle.tx_core.specs.declared.tx.Update.{Update}
use Rattle.dc_talk.specs.declared.calls.Change.{Change}
use Rattle.tx_graph.specs.Nodes.{Node}
use Rattle.tx_graph.specs.Values.{change_of, delta_of, deltas_in, acts_over}
use Rattle.graph_rights.specs.Accounts.{sum_over, counted_if}

-- ---- what changes add

-- what a change adds to a counter, 0 where it is a change of another kind
abbrev pub amount_of : Change → ℤ
amount_of change = unwrap_or (delta_of change) (pos 0)

-- what an update adds to whichever counter it is of
abbrev pub amount_in : Update → ℤ
amount_in u = amount_of (change_of u.op)

-- what it adds to this one
abbrev pub amount_at : Update → ObjectId → ℤ
amount_at u o = counted_if (same_object u.object o) (amount_in u)

-- ---- rights

-- the rights by the value of each cell, of a holder with these cells for it and against it
abbrev pub rights_by : List ObjectId → List ObjectId → (ObjectId → ℤ) → ℤ
rights_by gains losses value = sum_over value gains -ℤ sum_over value losses

-- the rights over a set of dots
abbrev pub rights_over : List ObjectId → List ObjectId → List Node → List Dot → ℤ
rights_over gains losses nodes set = rights_by gains losses (λ o. total (deltas_in (acts_over nodes set o)))

-- and over updates
abbrev pub rights_in : List ObjectId → List ObjectId → List Update → ℤ
rights_in gains losses updates = rights_by gains losses (λ o. sum_over (λ u. amount_at u o) updates)

-- the cells of a holder in a graph: each transaction depends on the earlier ones of its client; what is added to a cell is
-- not below 0; only the owner adds to the cells against it, and no more than it has over what the transaction depends on
-- and by the updates before it there
pub record IsGuarded (owner : ℕ) (gains losses : List ObjectId) (nodes : List Node) : Type 0 where
  pub own : (t u : Node) → In t nodes → In u nodes → u.dot.client ≡ t.dot.client → u.dot.number < t.dot.number → In u.dot t.deps
  pub paid : (t : Node) (u : Update) (o : ObjectId) → In t nodes → In u t.updates → In o gains ⊎ In o losses → same_object u.object o ≡ true → pos 0 ≤ℤ amount_in u
  pub taken : (t : Node) (u : Update) (o : ObjectId) → In t nodes → In u t.updates → In o losses → same_object u.object o ≡ true → t.dot.client ≡ owner
  pub checked : (t : Node) (before later : List Update) (u : Update) (o : ObjectId) → In t nodes → t.updates ≡ before ++ u ∷ later → In o losses → same_object u.object o ≡ true → amount_in u ≤ℤ (rights_over gains losses nodes t.deps +ℤ rights_in gains losses before)
