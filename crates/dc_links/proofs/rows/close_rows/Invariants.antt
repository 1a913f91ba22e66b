use Rattle.std.proofs.Common.{◌≡◌, drop, length}
use Rattle.dc_links.specs.Links.{rows_of}
use Rattle.dc_links.specs.Closing.{ClosesRows}
use Rattle.dc_links.proofs.rows.close_rows.Given as goal

abbrev pub invariant-senders : goal.invariant-senders
invariant-senders g l = record {
  links : l.links.items ≡ drop l._before l.fn.rows.items;
  own : l.own.items ≡ drop l._before l.fn.givers.items;
  closes : ClosesRows (length l.fn.rows.items) l._before (rows_of l.fn.givers.items) (rows_of l.fn.takers.items) (rows_of l.all.items);
}
