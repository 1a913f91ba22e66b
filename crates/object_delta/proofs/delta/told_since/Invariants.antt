use Rattle.std.proofs.Common.{◌≡◌, ◌≤◌, ◌++◌, drop, length}
use Rattle.std.specs.Prelude.{filter}
use Rattle.point_log.specs.LogSplits.{ops_in}
use Rattle.point_log.specs.Served.{is_since}
use Rattle.dc_talk.specs.declared.ask.TheConstants.{MOST_CHANGES}
use Rattle.object_delta.proofs.delta.told_since.Given as goal

abbrev pub invariant-cells : goal.invariant-cells
invariant-cells l = record {
  told : l.ops.items ++ ops_in (filter (is_since l.before l.at l.log.items) (drop l.cell-index l.cells)) ≡ ops_in (filter (is_since l.before l.at l.log.items) l.cells);
  few : length l.ops.items ≤ MOST_CHANGES;
}
