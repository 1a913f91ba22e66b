use Rattle.thread_run.specs.Taps.{row_lists, IsFirstOf}
use Rattle.thread_run.proofs.tapping.cut_readers.Given as goal

abbrev pub invariant-rows : goal.invariant-rows
invariant-rows l = IsFirstOf (row_lists l.yielded) l.parts
