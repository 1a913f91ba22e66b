use Rattle.std.proofs.Common.{◌≡◌, drop}
use Rattle.dc_talk.specs.Records.{has}
use Rattle.tx_graph.proofs.dot_set.is_in.Given as goal

abbrev pub invariant-loop-other : goal.invariant-loop-other
invariant-loop-other l = has l.dot (drop l.other-index l.dots) ≡ has l.fn.dot l.fn.dots
