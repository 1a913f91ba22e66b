use Rattle.std.proofs.Common.{length}
use Rattle.trail_journal.proofs.Groups.{HasAsked}
use Rattle.trail_journal.proofs.asking.ask_trail.Given as goal

abbrev pub invariant-groups : goal.invariant-groups
invariant-groups g l = HasAsked g.D.Disk.stands l.fn.journal l.journal l.trail l.rest

abbrev pub decreases-groups : goal.decreases-groups
decreases-groups g l = length l.rest
