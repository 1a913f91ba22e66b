use Rattle.std.proofs.Common.{◌≡◌, drop, map}
use Rattle.tx_graph.specs.Acts.{act_of}
use Rattle.tx_graph.specs.Unseen.{removed, is_taken}
use Rattle.tx_graph.proofs.unseen.is_removed.Given as goal

abbrev pub invariant-loop-other : goal.invariant-loop-other
invariant-loop-other l = is_taken removed (map act_of (drop l.other-index l.acts)) l.word (act_of l.act) ≡ is_taken removed (map act_of l.fn.acts) l.fn.word (act_of l.fn.act)
