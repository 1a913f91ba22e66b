-- The nodes of a set of dots, and an open node behind them.
use Rattle.std.proofs.Common.{◌≡◌, ◌⊎◌, inl, inr, ⊎_elim, List, ◌++◌, refl, subst}
use Rattle.std.specs.Prelude.{flat_map}
use Rattle.list_core.specs.Members.{In}
use Rattle.list_core.proofs.Members.{In_left, In_right, In_either, In_flat_map, In_from_flat_map, In_filter, In_from_filter}
use Rattle.ids_core.specs.declared.ids.Dot.{Dot}
use Rattle.dc_talk.specs.Records.{has}
use Rattle.dc_talk.proofs.Dots.{has_In, In_has}
use Rattle.tx_graph.specs.Nodes.{Node}
use Rattle.tx_graph.specs.Values.{nodes_in}

-- a node of the graph whose dot is in the set is one of the set's nodes
pub node_in : (nodes : List Node) (set : List Dot) (t : Node) → In t nodes → In t.dot set → In t (nodes_in nodes set)
node_in nodes set t i j = In_filter (λ t. has t.dot set) nodes t i (In_has t.dot set j)

-- one of the set's nodes is a node of the graph, and its dot is in the set
pub in_node : (nodes : List Node) (set : List Dot) (t : Node) → In t (nodes_in nodes set) → In t nodes × In t.dot set
in_node nodes set t i = let r = In_from_filter (λ t. has t.dot set) nodes t i in (r.0, has_In t.dot set r.1)

-- the node is one of the set's, or the open node
abbrev pub StandsIn : List Node → List Dot → Node → Node → Type 0
StandsIn nodes set last t = (In t nodes × In t.dot set) ⊎ (t ≡ last)

module _ {Y : Type 0} (f : Node → List Y) (nodes : List Node) (set : List Dot) (last : Node) where
  -- what the set's nodes and the open node have together, one of them has
  pub over_from : (y : Y) → In y (flat_map f (nodes_in nodes set) ++ f last) → (t : Node) × StandsIn nodes set last t × In y (f t)
  over_from y i =
      ⊎_elim
      (λ j. let r = In_from_flat_map f (nodes_in nodes set) y j in (r.0, inl (in_node nodes set r.0 r.1), r.2))
      (λ j. (last, inr refl, j))
      (In_either (flat_map f (nodes_in nodes set)) (f last) y i)

  -- what one of them has, they have together
  pub over_in : (t : Node) → StandsIn nodes set last t → (y : Y) → In y (f t) → In y (flat_map f (nodes_in nodes set) ++ f last)
  over_in t (inl i) y j = In_left (flat_map f (nodes_in nodes set)) (f last) y (In_flat_map f (nodes_in nodes set) t y (node_in nodes set t i.0 i.1) j)
  over_in t (inr same) y j = In_right (flat_map f (nodes_in nodes set)) (f last) y (subst (λ t. In y (f t)) same j)
