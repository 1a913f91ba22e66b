use Rattle.std.proofs.Common.{◌-◌, length}
use Rattle.journal_file.proofs.Parsing.{IsRead}
use Rattle.journal_file.proofs.opening.parse.Given as goal

abbrev pub invariant-loop-at : goal.invariant-loop-at
invariant-loop-at g l = IsRead g.T.Item.spelled l.bytes l.at l.items.items

abbrev pub decreases-loop-at : goal.decreases-loop-at
decreases-loop-at g l = length l.bytes - l.at
