use Rattle.std.proofs.Common.{◌≡◌, ◌++◌, map}
use Rattle.dc_centre.proofs.outbox.Outbox.of_parts.Given as goal

abbrev pub invariant-loop-row : goal.invariant-loop-row
invariant-loop-row l = map (λ row. row.items) l.rows.items ++ l.row-iterator.rest.items ≡ l.fn.parts
