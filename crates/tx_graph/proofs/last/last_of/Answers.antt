use Rattle.tx_graph.proofs.LastWords.{last_more}
use Rattle.tx_graph.proofs.last.last_of.Goals as goal

pub loop-mark-preserved : goal.loop-mark-preserved
loop-mark-preserved c = last_more c.args.words.now c.loop-mark.mark-index c.loop-mark.last c.later-last.result c.loop-mark-item.result c.loop-mark-test.true c.loop-mark-item.is c.loop-mark.invariant c.later-last.ensures
