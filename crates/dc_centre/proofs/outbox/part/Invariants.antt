use Rattle.std.proofs.Common.{◌≡◌, ◌-◌, take, drop}
use Rattle.dc_centre.proofs.outbox.part.Given as goal

abbrev pub invariant-loop-place : goal.invariant-loop-place
invariant-loop-place l = l.list.items ≡ take (l.place - l.start) (drop l.start l.records.items)
