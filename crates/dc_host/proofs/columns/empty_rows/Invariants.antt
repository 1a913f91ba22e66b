use Rattle.std.proofs.Common.{◌≡◌, []}
use Rattle.dc_host.specs.Hosts.{rows_of, new_rows}
use Rattle.dc_host.proofs.columns.empty_rows.Given as goal

abbrev pub invariant-callers : goal.invariant-callers
invariant-callers l = rows_of l.rows.items ≡ new_rows [] 1 l._caller
