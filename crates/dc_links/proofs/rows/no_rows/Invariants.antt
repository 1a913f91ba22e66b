use Rattle.std.proofs.Common.{◌≡◌, []}
use Rattle.std.specs.Prelude.{replicate}
use Rattle.dc_links.specs.Links.{rows_of}
use Rattle.dc_links.proofs.rows.no_rows.Given as goal

abbrev pub invariant-receivers : goal.invariant-receivers
invariant-receivers l = rows_of l.takers.items ≡ replicate l._to []
