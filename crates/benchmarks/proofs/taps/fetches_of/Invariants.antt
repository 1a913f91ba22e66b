use Rattle.host_lock.specs.Hosts.{IsOf}
use Rattle.benchmarks.proofs.taps.fetches_of.Given as goal

abbrev pub invariant-looks : goal.invariant-looks
invariant-looks g l = IsOf l.host l.pass
