use Rattle.ids_core.specs.Orders.{id_cmp_total, id_cmp_same}
use Rattle.ids_core.proofs.ids.law_id_order.Goals as goal

pub returns : goal.returns
returns c = record { total = id_cmp_total; same = id_cmp_same }
