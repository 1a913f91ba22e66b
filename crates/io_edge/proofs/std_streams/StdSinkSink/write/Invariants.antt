use Rattle.std.proofs.Common.{◌≡◌}
use Rattle.io_edge.proofs.std_streams.StdSinkSink.write.Given as goal

abbrev pub invariant-tries : goal.invariant-tries
invariant-tries g l = l.self-inside.faults ≡ l.fn.self
