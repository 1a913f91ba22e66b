use Rattle.std.proofs.Common.{◌≡◌, ◌-◌, length}
use Rattle.dc_journal.proofs.Reading.{IsTakenTo}
use Rattle.dc_journal.proofs.opening.replay.Given as goal

abbrev pub invariant-loop-at : goal.invariant-loop-at
invariant-loop-at l = (l.centre.settings ≡ l.fn.centre.settings) × IsTakenTo l.fn.centre.settings l.bytes l.at l.centre

abbrev pub decreases-loop-at : goal.decreases-loop-at
decreases-loop-at l = length l.bytes - l.at
