use Rattle.host_lock.specs.Hosts.{IsOf}
use Rattle.benchmarks.proofs.lock.called.Given as goal

abbrev pub invariant-calls : goal.invariant-calls
invariant-calls g l = IsOf l.host l.pass
