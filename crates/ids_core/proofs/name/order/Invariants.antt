use Rattle.std.proofs.Common.{◌≡◌, ◌≤◌, length, drop}
use Rattle.std.specs.Prelude.{min}
use Rattle.ids_core.specs.Orders.{name_cmp}
use Rattle.ids_core.proofs.name.order.Given as goal

abbrev pub invariant-loop-i : goal.invariant-loop-i
invariant-loop-i l = (l.i-end ≡ min (length l.a) (length l.b)) × (l.i ≤ l.i-end) × (name_cmp (drop l.i l.a) (drop l.i l.b) ≡ name_cmp l.a l.b)
