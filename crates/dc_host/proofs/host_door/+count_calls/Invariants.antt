use Rattle.std.proofs.Common.{length}
use Rattle.dc_host.proofs.host_door.+count_calls.Given as goal

abbrev pub decreases-count_calls : goal.decreases-count_calls
decreases-count_calls l = length l.passes.now
