use Rattle.dc_host.specs.Hosts.{rows_of, IsColumnOf}
use Rattle.dc_host.proofs.columns.cut.Given as goal

abbrev pub invariant-rows : goal.invariant-rows
invariant-rows l = IsColumnOf (rows_of l.yielded) l.column
