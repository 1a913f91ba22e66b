use Rattle.std.proofs.Common.{◌++◌, ap, ◌∙◌}
use Rattle.std.proofs.lemmas.Result.{on_ok_weaker}
use Rattle.std.proofs.lemmas.List.{map-id}
use Rattle.tx_core.specs.Operations.{ops_of}
use Rattle.object_lists.specs.Listed.{listed}
use Rattle.client_pending.proofs.turns.put.Goals as goal

pub returns-clause-ok : goal.returns-clause-ok
returns-clause-ok c = on_ok_weaker c.put_tx.result (λ ok o. ok o ∙ ap (λ l. listed c.args.index.now o ++ l) (map-id (ops_of o c.args.tx.now))) c.put_tx.ensures.ok
