use Rattle.std.proofs.Common.{◌≡◌, length}
use Rattle.thread_run.specs.Lending.{HaveInletsTo}
use Rattle.thread_run.proofs.lending.give_to.Given as goal

abbrev pub invariant-inlets : goal.invariant-inlets
invariant-inlets l = record { number : l.from ≡ length l.yielded; given : HaveInletsTo l.initial.posts l.to l.yielded l.posts }
