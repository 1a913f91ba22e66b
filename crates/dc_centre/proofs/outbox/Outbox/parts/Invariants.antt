use Rattle.std.proofs.Common.{◌≡◌, take}
use Rattle.dc_centre.proofs.outbox.Outbox.parts.Given as goal

abbrev pub invariant-origins : goal.invariant-origins
invariant-origins l = l.parts ≡ take l.place l.self.rows
