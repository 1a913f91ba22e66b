use Rattle.std.proofs.Common.{◌≡◌, drop}
use Rattle.std.specs.Prelude.{filter}
use Rattle.tx_core.specs.States.{fold_of}
use Rattle.point_log.specs.LogSplits.{ops_in}
use Rattle.point_log.specs.Served.{is_since}
use Rattle.point_log.proofs.served.fold_since.Given as goal

abbrev pub invariant-loop-cell : goal.invariant-loop-cell
invariant-loop-cell l = fold_of l.state (ops_in (filter (is_since l.before l.at l.log.items) (drop l.cell-index l.cells))) ≡ fold_of l.fn.state (ops_in (filter (is_since l.before l.at l.log.items) l.cells))
