use Rattle.std.proofs.Common.{◌≡◌}
use Rattle.lock_tests.proofs.mail_link_tests.puts.Given as goal

abbrev pub invariant-loop-item : goal.invariant-loop-item
invariant-loop-item g l = l.giver.link ≡ l.link
