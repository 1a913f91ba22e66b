use Rattle.std.proofs.Common.{◌≡◌, ◌≤◌, ◌++◌, length, take, map}
use Rattle.ids_core.specs.declared.limits.TheConstants.{MOST_UPDATES}
use Rattle.tx_graph.specs.Nodes.{Node}
use Rattle.tx_graph.specs.Values.{acts_from}
use Rattle.tx_graph.specs.Acts.{bare_of}
use Rattle.run_book.specs.BareNodes.{bare_node}
use Rattle.run_book.proofs.object_acts.push_acts.Given as goal

abbrev pub invariant-loop-place : goal.invariant-loop-place
invariant-loop-place l = (t : Node) → l.node ≡ bare_node t → length t.updates ≤ MOST_UPDATES → l.acts.items ≡ l.initial.acts.items ++ map bare_of (acts_from l.object t 0 (take l.place t.updates))
