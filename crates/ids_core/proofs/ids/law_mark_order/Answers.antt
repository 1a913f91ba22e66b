use Rattle.ids_core.specs.Orders.{mark_cmp_total, mark_cmp_same}
use Rattle.ids_core.proofs.ids.law_mark_order.Goals as goal

pub returns : goal.returns
returns c = record { total = mark_cmp_total; same = mark_cmp_same }
