-- The operations of an object in the nodes of a graph, and what the issuer of an update had in view.
use Rattle.std.specs.Prelude.{◌≡◌, ◌↔◌, ℕ, flat_map, take, List, ◌++◌, Some, slice_get}
use Rattle.list_core.specs.Members.{In}
use Rattle.ids_core.specs.declared.ids.Dot.{Dot}
use Rattle.ids_core.specs.declared.ids.OpId.{OpId}
use Rattle.ids_core.specs.declared.ids.Mark.{Mark}
use Rattle.ids_core.specs.declared.object.ObjectId.{ObjectId}
use Rattle.tx_core.specs.declared.op.Op.{Op}
use Rattle.tx_core.specs.declared.tx.Update.{Update}
use Rattle.tx_core.specs.Ops.{over_of, name_of}
use Rattle.tx_core.specs.Objects.{IsLiveId}
use Rattle.tx_core.specs.Operations.{ops_from}
use Rattle.tx_graph.specs.Nodes.{Node}
use Rattle.tx_graph.specs.Values.{nodes_in}

-- the marked operations of the object in a node
abbrev pub node_ops : ObjectId → Node → List (Mark × Op)
node_ops o t = ops_from o t.rank t.dot 0 t.updates

-- those in the nodes of a set of dots
abbrev pub ops_in : List Node → List Dot → ObjectId → List (Mark × Op)
ops_in nodes set o = flat_map (node_ops o) (nodes_in nodes set)

-- those in the nodes of a set of dots, and behind them those in an open node
abbrev pub ops_over : List Node → List Dot → Node → ObjectId → List (Mark × Op)
ops_over nodes set last o = ops_in nodes set o ++ node_ops o last

-- a node with its first k updates alone
abbrev pub with_first : ℕ → Node → Node
with_first k t = record { dot = t.dot; deps = t.deps; rank = t.rank; updates = take k t.updates }

-- the operations of the object that the issuer of update k of a node had in view: those of the node's
-- dependency set, and those of the updates before it
abbrev pub ops_before : List Node → Node → ℕ → ObjectId → List (Mark × Op)
ops_before nodes t k o = ops_over nodes t.deps (with_first k t) o

-- the update at place k of a node is over the identifiers of its word or key that were live in its
-- issuer's view
pub record IsIssuedAt (nodes : List Node) (t : Node) (k : ℕ) (u : Update) : Type 0 where
  pub over : (name : List ℕ) (id : OpId) → name_of u.op ≡ Some name → In id (over_of u.op) ↔ IsLiveId (ops_before nodes t k u.object) name id

-- so is each update of the node
pub record IsIssued (nodes : List Node) (t : Node) : Type 0 where
  pub each : (k : ℕ) (u : Update) → slice_get t.updates k ≡ Some u → IsIssuedAt nodes t k u
