use Rattle.std.proofs.Common.{length}
use Rattle.trail_pair.proofs.Groups.{HasAsked}
use Rattle.trail_pair.proofs.asking.ask_trail.Given as goal

abbrev pub invariant-groups : goal.invariant-groups
invariant-groups g l = HasAsked g.D.Disk.stands l.fn.pair l.pair l.trail l.rest

abbrev pub decreases-groups : goal.decreases-groups
decreases-groups g l = length l.rest
