use Rattle.std.proofs.Common.{ap, sym, ◌∙◌}
use Rattle.tx_graph.proofs.PairsOfPuts.{pairs_more, some_last}
use Rattle.tx_graph.proofs.values.pairs_of.Goals as goal
use Rattle.tx_graph.proofs.values.pairs_of.Goals.{in-Some+in_ok-push, in_default}

pub loop-key-preserved : goal.loop-key-preserved
loop-key-preserved c =
    let all = c.deref.ensures.value ∙ c.in_ok-words.ensures in
    elim c.match-last_of.branch [
      | in-Some+in_ok-push w ↦ pairs_more c.args.puts.now c.args.keys.now c.loop-key.key-index c.key-item.result c.deref.result.now _ c.loop-key.list.items c.match-last_of.list.items c.loop-key-test.true c.key-item.is all w.in-Some.ensures (ap (λ v. v.items) w.list-is ∙ w.in_ok-push.ensures.items) c.loop-key.invariant
      | in_default w ↦ absurd (some_last c.args.puts.now c.args.keys.now c.loop-key.key-index c.key-item.result c.loop-key-test.true c.key-item.is c.requires (sym all ∙ w.in_default.ensures))
    ]
