use Rattle.std.proofs.Common.{◌≡◌, ◌+◌, length}
use Rattle.thread_run.specs.Taps.{row_lists, widened}
use Rattle.thread_run.proofs.tapping.add_readers.Given as goal

abbrev pub invariant-readers : goal.invariant-readers
invariant-readers l = record {
  place_is : l.place ≡ length l.yielded;
  fits : l.place + length l.reader-iterator.rest.items ≡ length l.initial.rows.items;
  long : length l.rows.items ≡ length l.initial.rows.items;
  rows_are : row_lists l.rows.items ≡ widened (row_lists l.initial.rows.items) l.yielded;
}
