use Rattle.std.proofs.Common.{◌≡◌, ◌-◌}
use Rattle.run_table.specs.Tables.{new_logs}
use Rattle.run_table.proofs.table.logs_of.Given as goal

abbrev pub invariant-actors : goal.invariant-actors
invariant-actors l = l.logs.items ≡ new_logs (l.actor - 1)
