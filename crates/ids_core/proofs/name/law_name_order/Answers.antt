use Rattle.ids_core.specs.Orders.{name_cmp_total, name_cmp_same}
use Rattle.ids_core.proofs.name.law_name_order.Goals as goal

pub returns : goal.returns
returns c = record { total = name_cmp_total; same = name_cmp_same }
