use Rattle.std.proofs.Common.{◌≡◌, ◌-◌, None}
use Rattle.wire_codec.specs.Reading.{with_front, tags_after_at}
use Rattle.wire_codec.proofs.tags.list_at.Given as goal

abbrev pub invariant-loop : goal.invariant-loop
invariant-loop l = with_front l.list.items (tags_after_at (l.count - l.counter) l.last l.rest) ≡ tags_after_at l.count None l.bytes
