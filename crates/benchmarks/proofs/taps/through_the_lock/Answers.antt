use Rattle.benchmarks.proofs.Passes.{new_are_of}
use Rattle.benchmarks.proofs.taps.through_the_lock.Goals as goal

pub fetches_of_all-requires-after_bounds : goal.fetches_of_all-requires-after_bounds
fetches_of_all-requires-after_bounds g c κs within = new_are_of c.in_ok-host.host c.args.readers c.in_ok-host.passes.items c.in_ok-host.ensures.passes
