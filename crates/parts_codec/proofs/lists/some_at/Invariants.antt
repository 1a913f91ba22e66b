use Rattle.std.proofs.Common.{◌≡◌, ◌-◌}
use Rattle.state_codec.specs.Reading.{with_front, times_at}
use Rattle.parts_codec.proofs.lists.some_at.Given as goal

abbrev pub invariant-loop : goal.invariant-loop
invariant-loop g l = with_front l.list.items (times_at g.T.Spell.reading (l.count - l.counter) l.rest) ≡ times_at g.T.Spell.reading l.count l.bytes
