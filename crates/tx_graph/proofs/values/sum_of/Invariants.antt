use Rattle.std.proofs.Common.{◌≡◌, pos, drop, map, fold}
use Rattle.obj_counter.specs.Counter.{added}
use Rattle.tx_graph.specs.Values.{deltas_in}
use Rattle.tx_graph.specs.Acts.{act_of}
use Rattle.tx_graph.proofs.values.sum_of.Given as goal

abbrev pub invariant-loop-act : goal.invariant-loop-act
invariant-loop-act l = fold added l.sum (deltas_in (map act_of (drop l.act-index l.acts))) ≡ fold added (pos 0) (deltas_in (map act_of l.fn.acts))
