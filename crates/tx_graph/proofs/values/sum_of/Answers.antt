use Rattle.tx_graph.proofs.Deltas.{sum_done}
use Rattle.tx_graph.proofs.values.sum_of.Goals as goal

pub returns : goal.returns
returns c = sum_done c.args.acts.now c.loop-act.act-index _ c.loop-act-test.false c.loop-act.invariant
