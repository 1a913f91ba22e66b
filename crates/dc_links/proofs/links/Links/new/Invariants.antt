use Rattle.std.proofs.Common.{◌≡◌, length}
use Rattle.dc_links.specs.Links.{rows_of}
use Rattle.dc_links.specs.Laying.{Lays}
use Rattle.dc_links.proofs.links.Links.new.Given as goal

abbrev pub invariant-centres : goal.invariant-centres
invariant-centres l = record {
  many : length l.rows.items ≡ l._from;
  lays : Lays l.n (rows_of l.rows.items) (rows_of l.givers.items) (rows_of l.takers.items);
}
