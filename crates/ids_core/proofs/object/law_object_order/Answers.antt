use Rattle.ids_core.specs.Orders.{object_cmp_total, object_cmp_same}
use Rattle.ids_core.proofs.object.law_object_order.Goals as goal

pub returns : goal.returns
returns c = record { total = object_cmp_total; same = object_cmp_same }
