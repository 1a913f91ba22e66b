use Rattle.std.proofs.Common.{◌≡◌, drop}
use Rattle.dc_links.specs.Links.{rows_of}
use Rattle.dc_links.specs.Closing.{ClosesRow}
use Rattle.dc_links.proofs.rows.close_row.Given as goal

abbrev pub invariant-receivers : goal.invariant-receivers
invariant-receivers g l = record {
  links : l.links.items ≡ drop l.place l.fn.row.items;
  own : l.own.items ≡ drop l.place l.fn.givers.items;
  closes : ClosesRow l.place l.fn.givers.items (rows_of l.fn.takers.items) (rows_of l.takers.items);
}
