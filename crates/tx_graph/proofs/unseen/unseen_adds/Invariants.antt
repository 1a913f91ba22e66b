use Rattle.std.proofs.Common.{◌≡◌, ◌++◌, drop, map}
use Rattle.std.specs.List.{filter_map}
use Rattle.tx_graph.specs.Acts.{act_of}
use Rattle.tx_graph.specs.Unseen.{unseen_add}
use Rattle.tx_graph.proofs.unseen.unseen_adds.Given as goal

abbrev pub invariant-loop-act : goal.invariant-loop-act
invariant-loop-act l = l.list.items ++ filter_map (unseen_add (map act_of l.acts)) (map act_of (drop l.act-index l.acts)) ≡ filter_map (unseen_add (map act_of l.fn.acts)) (map act_of l.fn.acts)
