use Rattle.std.proofs.Common.{◌≡◌, drop}
use Rattle.tx_core.specs.Checks.{updates_fault}
use Rattle.tx_core.proofs.check.updates_fault.Given as goal

abbrev pub invariant-loop-place : goal.invariant-loop-place
invariant-loop-place l = updates_fault l.place (drop l.place l.updates) ≡ updates_fault 0 l.updates
