use Rattle.std.proofs.Common.{take}
use Rattle.tx_graph.specs.Unseen.{IsLastOf}
use Rattle.tx_graph.proofs.last.last_of.Given as goal

abbrev pub invariant-loop-mark : goal.invariant-loop-mark
invariant-loop-mark l = IsLastOf (take l.mark-index l.words) l.last
