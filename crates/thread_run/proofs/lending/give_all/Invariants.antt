use Rattle.std.proofs.Common.{◌≡◌, length}
use Rattle.thread_run.proofs.Ends.{HaveRows}
use Rattle.thread_run.proofs.lending.give_all.Given as goal

abbrev pub invariant-rows : goal.invariant-rows
invariant-rows l = record { number : l.to ≡ length l.yielded; given : HaveRows l.n l.yielded l.posts }
