use Rattle.std.proofs.Common.{◌≡◌, ◌-◌}
use Rattle.run_table.specs.Tables.{new_stubs}
use Rattle.run_table.proofs.table.stubs_of.Given as goal

abbrev pub invariant-clients : goal.invariant-clients
invariant-clients l = l.stubs.items ≡ new_stubs l.n l.cache (l.client - 1)
