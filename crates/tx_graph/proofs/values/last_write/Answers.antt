use Rattle.std.proofs.Common.{map, ◌∙◌}
use Rattle.tx_graph.specs.Acts.{act_of}
use Rattle.tx_graph.proofs.LastWords.{last_word, no_word}
use Rattle.tx_graph.proofs.values.last_write.Goals as goal

pub returns-in-Some : goal.returns-in-Some
returns-in-Some c = last_word (map act_of c.args.acts.now) c.deref.result.now _ (c.deref.ensures.value ∙ c.in_ok-writes.ensures) c.in-Some.ensures

pub returns : goal.returns
returns c = no_word (map act_of c.args.acts.now) c.deref.result.now (c.deref.ensures.value ∙ c.in_ok-writes.ensures) c.in-None.ensures
