use Rattle.benchmarks.proofs.Passes.{new_are_of}
use Rattle.benchmarks.proofs.lock.under_a_lock.Goals as goal

pub in_threads-requires-after_bounds : goal.in_threads-requires-after_bounds
in_threads-requires-after_bounds g c κs within = new_are_of c.in_ok-host.host c.args.threads c.in_ok-host.passes.items c.in_ok-host.ensures.passes
