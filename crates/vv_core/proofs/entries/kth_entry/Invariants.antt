use Rattle.std.proofs.Common.{◌≡◌, drop, leb, max}
use Rattle.std.specs.Prelude.{filter}
use Rattle.vv_core.specs.Vectors.{most, reach, column, kth_of}
use Rattle.vv_core.proofs.entries.kth_entry.Given as goal

abbrev pub invariant-loop-row : goal.invariant-loop-row
invariant-loop-row l = max l.best (most (filter (λ x. leb l.k (reach x (column l.centre l.rows))) (column l.centre (drop l.row-index l.rows)))) ≡ kth_of l.k (column l.centre l.rows)
