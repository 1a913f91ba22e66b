use Rattle.std.proofs.Common.{◌≡◌, ◌≤◌, List, length, take, map}
use Rattle.std.specs.Prelude.{All, flat_map}
use Rattle.ids_core.specs.declared.limits.TheConstants.{MOST_UPDATES}
use Rattle.tx_graph.specs.Nodes.{Node}
use Rattle.tx_graph.specs.Values.{acts_of, nodes_in}
use Rattle.tx_graph.specs.Acts.{bare_of}
use Rattle.run_book.specs.BareNodes.{bare_node}
use Rattle.run_book.proofs.object_acts.acts_over.Given as goal

abbrev pub invariant-loop-node : goal.invariant-loop-node
invariant-loop-node l = (whole : List Node) → l.nodes ≡ map bare_node whole → All (λ t. length t.updates ≤ MOST_UPDATES) whole → l.acts.items ≡ map bare_of (flat_map (acts_of l.object) (nodes_in (take l.node-index whole) l.dots))
