use Rattle.std.proofs.Common.{length}
use Rattle.std.specs.Map.{values_of}
use Rattle.op_log.proofs.Owns.{Unseen}
use Rattle.op_log.proofs.dots.mine_of.Given as goal

abbrev pub invariant-loop-dot : goal.invariant-loop-dot
invariant-loop-dot l = Unseen l.client l.at (values_of l.slots.entries) l.known

abbrev pub decreases-loop-dot : goal.decreases-loop-dot
decreases-loop-dot l = length l.known
