use Rattle.tx_core.proofs.Folds.{step_commutes, fold_of-order, fold_of-sort}
use Rattle.tx_core.proofs.laws.law_state_order.Goals as goal

pub returns : goal.returns
returns c = record { commute = step_commutes; order = fold_of-order; sort = fold_of-sort }
