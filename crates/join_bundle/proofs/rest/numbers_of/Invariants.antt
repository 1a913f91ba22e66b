use Rattle.std.proofs.Common.{◌≡◌, ℕ, max, drop}
use Rattle.std.specs.Prelude.{unwrap_or}
use Rattle.std.specs.BTreeMap.{get}
use Rattle.std.specs.Ordering.{nat_cmp}
use Rattle.join_bundle.specs.Conditions.{noted}
use Rattle.join_bundle.proofs.rest.numbers_of.Given as goal

abbrev pub invariant-loop-part : goal.invariant-loop-part
invariant-loop-part l = (client : ℕ) → max (noted (drop l.part-index l.clients) client) (unwrap_or (get nat_cmp l.numbers client) 0) ≡ noted l.clients client
