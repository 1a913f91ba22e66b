use Rattle.std.proofs.Common.{◌≡◌, drop, map}
use Rattle.tx_graph.specs.Acts.{act_of}
use Rattle.tx_graph.specs.Unseen.{erased, is_taken}
use Rattle.tx_graph.proofs.unseen.is_erased.Given as goal

abbrev pub invariant-loop-other : goal.invariant-loop-other
invariant-loop-other l = is_taken erased (map act_of (drop l.other-index l.acts)) l.key (act_of l.act) ≡ is_taken erased (map act_of l.fn.acts) l.fn.key (act_of l.fn.act)
