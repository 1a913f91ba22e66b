use Rattle.std.proofs.Common.{arith, length}
use Rattle.vv_core.specs.Vectors.{kth_of, column}
use Rattle.vv_core.proofs.Entrywise.{is_tabulate_places}
use Rattle.vv_core.proofs.entries.kth_entries.Goals as goal

pub returns : goal.returns
returns c = is_tabulate_places c.loop-e.into (length c.args.into.now) (λ e. kth_of c.args.k (column e c.args.rows.now)) (omega arith) (λ i lt. c.loop-e.invariant i (omega arith))
