use Rattle.std.proofs.Common.{◌≡◌, drop}
use Rattle.dc_centre.proofs.outbox.trim.Given as goal

abbrev pub invariant-loop : goal.invariant-loop
invariant-loop l = l.records.items ≡ drop l.counter l.fn.records.items
