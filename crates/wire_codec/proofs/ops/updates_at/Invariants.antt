use Rattle.std.proofs.Common.{◌≡◌, ◌-◌}
use Rattle.wire_codec.specs.Reading.{with_front, updates_at}
use Rattle.wire_codec.proofs.ops.updates_at.Given as goal

abbrev pub invariant-loop : goal.invariant-loop
invariant-loop l = with_front l.list.items (updates_at (l.count - l.counter) l.rest) ≡ updates_at l.count l.bytes
