use Rattle.std.proofs.Common.{◌≡◌, []}
use Rattle.std.specs.Prelude.{replicate}
use Rattle.thread_run.specs.Taps.{row_lists}
use Rattle.thread_run.proofs.tapping.empty_rows.Given as goal

abbrev pub invariant-threads : goal.invariant-threads
invariant-threads l = row_lists l.rows.items ≡ replicate l._thread []
