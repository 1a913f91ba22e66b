use Rattle.std.proofs.Common.{◌≡◌, ◌++◌, drop, map}
use Rattle.std.specs.List.{filter_map}
use Rattle.tx_graph.specs.Acts.{act_of}
use Rattle.tx_graph.specs.Unseen.{marked_write}
use Rattle.tx_graph.proofs.values.marked_writes.Given as goal

abbrev pub invariant-loop-act : goal.invariant-loop-act
invariant-loop-act l = l.list.items ++ filter_map marked_write (map act_of (drop l.act-index l.acts)) ≡ filter_map marked_write (map act_of l.fn.acts)
