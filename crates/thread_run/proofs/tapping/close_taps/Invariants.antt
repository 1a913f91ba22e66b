use Rattle.std.proofs.Common.{List, ◌++◌}
use Rattle.std.specs.Prelude.{All}
use Rattle.script_core.specs.declared.taps.TapState.{TapState}
use Rattle.thread_run.specs.Taps.{row_lists, AreReadsOf, HaveClosed}
use Rattle.thread_run.proofs.tapping.close_taps.Given as goal

abbrev pub invariant-taps : goal.invariant-taps
invariant-taps g l = record {
  reads : All (AreReadsOf l.left.feeders.items) (row_lists l.left.rows.items);
  closed : (rest more : List TapState) → HaveClosed rest l.left.feeders.items (row_lists l.left.rows.items) more → HaveClosed (l.yielded ++ rest) l.fn.opened.feeders.items (row_lists l.fn.opened.rows.items) (l.all.items ++ more);
}
