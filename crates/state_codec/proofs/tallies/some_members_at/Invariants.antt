use Rattle.std.proofs.Common.{◌≡◌, ◌-◌}
use Rattle.state_codec.specs.Reading.{with_front, times_at, member_at}
use Rattle.state_codec.proofs.tallies.some_members_at.Given as goal

abbrev pub invariant-loop : goal.invariant-loop
invariant-loop l = with_front l.list.items (times_at member_at (l.count - l.counter) l.rest) ≡ times_at member_at l.count l.bytes
