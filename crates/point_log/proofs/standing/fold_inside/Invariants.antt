use Rattle.std.proofs.Common.{◌≡◌, drop}
use Rattle.std.specs.Prelude.{filter}
use Rattle.tx_core.specs.States.{fold_of}
use Rattle.op_log.specs.Logs.{is_inside_at}
use Rattle.point_log.specs.LogSplits.{ops_in}
use Rattle.point_log.proofs.standing.fold_inside.Given as goal

abbrev pub invariant-loop-cell : goal.invariant-loop-cell
invariant-loop-cell l = fold_of l.state (ops_in (filter (λ c. is_inside_at l.at c.tx l.log.items) (drop l.cell-index l.cells))) ≡ fold_of l.fn.state (ops_in (filter (λ c. is_inside_at l.at c.tx l.log.items) l.cells))
