use Rattle.std.proofs.Common.{◌≡◌, drop, map}
use Rattle.std.specs.Ordering.{nat_cmp}
use Rattle.join_bundle.specs.Tests.{ascends_from}
use Rattle.centre_parts.proofs.point.clients_ascend_from.Given as goal

abbrev pub invariant-loop-part : goal.invariant-loop-part
invariant-loop-part l = ascends_from nat_cmp l.fn.low (map (λ c. c.client) l.clients) ≡ ascends_from nat_cmp l.last (map (λ c. c.client) (drop l.part-index l.clients))
