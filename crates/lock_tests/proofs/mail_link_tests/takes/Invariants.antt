use Rattle.std.proofs.Common.{◌≡◌, ◌≤◌}
use Rattle.lock_tests.proofs.mail_link_tests.takes.Given as goal

abbrev pub invariant-loop-turn : goal.invariant-loop-turn
invariant-loop-turn g l = record {
  of : l.taker.link ≡ l.link;
  few : l.next ≤ 10000;
}
