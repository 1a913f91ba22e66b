use Rattle.dc_centre.proofs.Rows.{HasTrimmedFirst}
use Rattle.dc_centre.proofs.outbox.Outbox.trim.Given as goal

abbrev pub invariant-origins : goal.invariant-origins
invariant-origins l = HasTrimmedFirst l.place l.low l.high l.fn.self.rows l.self.rows
