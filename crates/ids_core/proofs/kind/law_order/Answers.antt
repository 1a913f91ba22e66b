use Rattle.ids_core.proofs.Folds.{fold_perm}
use Rattle.ids_core.proofs.kind.law_order.Goals as goal

pub returns : goal.returns
returns g c start ops others perm distinct = fold_perm g.K.Kind.step g.met.K.Kind.commutes ops others perm distinct start
