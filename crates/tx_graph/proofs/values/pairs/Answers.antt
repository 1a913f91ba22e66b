use Rattle.std.proofs.Common.{map, ◌∙◌}
use Rattle.std.proofs.lemmas.Result.{IfOk-weaker}
use Rattle.tx_graph.specs.Values.{IsMapOver}
use Rattle.tx_graph.specs.Acts.{act_of}
use Rattle.tx_graph.specs.Unseen.{ArePairsOf}
use Rattle.tx_graph.proofs.PairsOfPuts.{same_keys, map_of}
use Rattle.tx_graph.proofs.values.pairs.Goals as goal

pub pairs_of-requires : goal.pairs_of-requires
pairs_of-requires c = λ key i. (same_keys c.in_ok-puts.puts.items c.deref.result.now c.deref-2.result.now c.in_ok-keys_of.field-0.items c.ascending-keys.result.items c.deref-3.result.now c.deref.ensures.value c.deref-2.ensures.value c.in_ok-keys_of.ensures c.ascending-keys.ensures.exact c.deref-3.ensures.value key).0 i

pub returns : goal.returns
returns c = λ unique.
    let same = same_keys c.in_ok-puts.puts.items c.deref.result.now c.deref-2.result.now c.in_ok-keys_of.field-0.items c.ascending-keys.result.items c.deref-3.result.now c.deref.ensures.value c.deref-2.ensures.value c.in_ok-keys_of.ensures c.ascending-keys.ensures.exact c.deref-3.ensures.value in
    IfOk-weaker c.pairs_of.result (λ list. ArePairsOf c.deref-2.result.now c.deref-3.result.now list.items) (λ list. IsMapOver (map act_of c.args.acts.now) list.items) (λ list are. map_of (map act_of c.args.acts.now) c.deref-2.result.now c.deref-3.result.now c.ascending-keys.result.items list.items unique (c.deref-2.ensures.value ∙ c.in_ok-puts.ensures) c.deref-3.ensures.value c.ascending-keys.ensures.ascending same are) c.pairs_of.ensures
