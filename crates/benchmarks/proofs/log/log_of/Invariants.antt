use Rattle.benchmarks.specs.Logs.{IsBelow}
use Rattle.benchmarks.proofs.log.log_of.Given as goal

abbrev pub invariant-loop-number : goal.invariant-loop-number
invariant-loop-number l = IsBelow l.number l.log.items
