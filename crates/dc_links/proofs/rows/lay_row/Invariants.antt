use Rattle.std.proofs.Common.{◌≡◌, length}
use Rattle.dc_links.specs.Links.{rows_of}
use Rattle.dc_links.specs.Laying.{LaysRow}
use Rattle.dc_links.proofs.rows.lay_row.Given as goal

abbrev pub invariant-receivers : goal.invariant-receivers
invariant-receivers l = record {
  long : length l.row.items ≡ l.before;
  lays : LaysRow l.row.items l.givers.items (rows_of l.fn.takers.items) (rows_of l.takers.items);
}
