use Rattle.std.proofs.lemmas.Bool.{OnFalse_at, OnFalse_from}
use Rattle.client_session.proofs.Found.{none_behind}
use Rattle.client_session.proofs.folded.is_changed.Goals as goal

pub returns-else-may_change : goal.returns-else-may_change
returns-else-may_change c rank dot =
    OnFalse_from c.changes.result _ (λ fails. none_behind c.args.object.now c.args.pending.now rank dot c.args.updates.now (OnFalse_at c.if-may_change.false c.may_change.ensures) (OnFalse_at fails c.changes.ensures))
