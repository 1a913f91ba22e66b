use Rattle.std.proofs.Common.{◌≡◌, ◌<◌, ◌+◌, ℕ, get_or}
use Rattle.vv_core.specs.Vectors.{kth_of, column}
use Rattle.vv_core.proofs.entries.kth_entries.Given as goal

abbrev pub invariant-loop-e : goal.invariant-loop-e
invariant-loop-e l = (i : ℕ) → i < l.e → get_or l.into i 0 ≡ kth_of l.k (column (i + 1) l.rows)
