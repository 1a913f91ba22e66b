use Rattle.std.proofs.Common.{◌≡◌, take, length}
use Rattle.thread_run.specs.Taps.{AreOpened}
use Rattle.thread_run.proofs.tapping.open_all.Given as goal

abbrev pub invariant-taps : goal.invariant-taps
invariant-taps g l = record {
  many : length l.opened.rows.items ≡ l.threads;
  opened : AreOpened (take l.tap-index l.taps) l.threads l.opened.feeders.items l.opened.rows.items;
}
