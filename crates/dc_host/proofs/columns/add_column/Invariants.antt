use Rattle.std.proofs.Common.{◌≡◌, ◌+◌, length}
use Rattle.dc_host.specs.Hosts.{rows_of, widened}
use Rattle.dc_host.proofs.columns.add_column.Given as goal

abbrev pub invariant-passes : goal.invariant-passes
invariant-passes l = record {
  place_is : l.place ≡ length l.yielded;
  fits : l.place + length l.pass-iterator.rest.items ≡ length l.initial.rows.items;
  long : length l.rows.items ≡ length l.initial.rows.items;
  rows_are : rows_of l.rows.items ≡ widened (rows_of l.initial.rows.items) l.yielded;
}
