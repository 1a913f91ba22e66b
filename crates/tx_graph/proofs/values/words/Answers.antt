use Rattle.std.proofs.Common.{map}
use Rattle.tx_graph.specs.Acts.{act_of}
use Rattle.tx_graph.proofs.UnseenActs.{set_over}
use Rattle.tx_graph.proofs.values.words.Goals as goal

pub returns : goal.returns
returns c = set_over (map act_of c.args.acts.now) c.in_ok-unseen_adds.field-0.items c.ascending.result.items c.in_ok-unseen_adds.ensures c.ascending.ensures.ascending c.ascending.ensures.exact
