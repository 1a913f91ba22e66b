-- Graphs of transactions with written-out dependency sets.
use Rattle.std.specs.Prelude.{◌≡◌, ℕ, ◌<◌, List, Some, slice_get}
use Rattle.list_core.specs.Members.{In}
use Rattle.ids_core.specs.declared.ids.Dot.{Dot}
use Rattle.tx_core.specs.declared.tx.Update.{Update}

-- a transaction with its dependency set, the dots of what it may have seen
pub record Node : Type 0 where
  pub dot : Dot
  pub deps : List Dot
  pub rank : ℕ
  pub updates : List Update

-- each dot of xs is in ys
pub record Within (xs ys : List Dot) : Type 0 where
  pub each : (d : Dot) → In d xs → In d ys

-- a set of dots of the graph is closed: it has the dependencies of its members
pub record Closed (nodes : List Node) (set : List Dot) : Type 0 where
  pub in_graph : (d : Dot) → In d set → (t : Node) × In t nodes × (t.dot ≡ d)
  pub dependencies : (t : Node) → In t nodes → In t.dot set → Within t.deps set

-- a graph is well made: dots differ, dependency sets are closed, and ranks grow along dependencies
pub record WellMade (nodes : List Node) : Type 0 where
  pub unique : (p q : ℕ) (t u : Node) → slice_get nodes p ≡ Some t → slice_get nodes q ≡ Some u → t.dot ≡ u.dot → p ≡ q
  pub closed : (t : Node) → In t nodes → Closed nodes t.deps
  pub ranks : (t u : Node) → In t nodes → In u nodes → In u.dot t.deps → u.rank < t.rank
