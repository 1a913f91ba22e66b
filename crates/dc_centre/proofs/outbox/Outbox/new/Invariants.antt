use Rattle.std.proofs.Common.{◌≡◌, map}
use Rattle.std.specs.Prelude.{replicate, []}
use Rattle.dc_centre.proofs.outbox.Outbox.new.Given as goal

abbrev pub invariant-origins : goal.invariant-origins
invariant-origins l = map (λ row. row.items) l.rows.items ≡ replicate l._origin []
