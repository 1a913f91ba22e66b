use Rattle.std.proofs.Common.{◌≡◌}
use Rattle.lock_tests.proofs.read_tap_tests.feeds.Given as goal

abbrev pub invariant-loop-feed : goal.invariant-loop-feed
invariant-loop-feed g l = l.feeder.table ≡ l.initial.feeder.table
