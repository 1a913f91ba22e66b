use Rattle.std.proofs.Common.{length}
use Rattle.dc_host.proofs.hosts.+close_all.Given as goal

abbrev pub decreases-close_all : goal.decreases-close_all
decreases-close_all l = length l.hosts.items
