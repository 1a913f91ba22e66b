use Rattle.std.proofs.Common.{rules}
use Rattle.std.proofs.lemmas.Int.{wraps}
use Rattle.tx_graph.proofs.values.add_wrapped.Goals as goal

pub returns : goal.returns
returns c = search (rules, wraps)
