use Rattle.std.proofs.Common.{take}
use Rattle.tx_graph.specs.Unseen.{ArePairsOf}
use Rattle.tx_graph.proofs.values.pairs_of.Given as goal

abbrev pub invariant-loop-key : goal.invariant-loop-key
invariant-loop-key l = ArePairsOf l.puts (take l.key-index l.keys) l.list.items
