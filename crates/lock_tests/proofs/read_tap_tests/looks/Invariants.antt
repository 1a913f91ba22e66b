use Rattle.std.proofs.Common.{◌≡◌}
use Rattle.lock_tests.proofs.read_tap_tests.looks.Given as goal

abbrev pub invariant-loop-turn : goal.invariant-loop-turn
invariant-loop-turn l = l.reader.table ≡ l.initial.reader.table
