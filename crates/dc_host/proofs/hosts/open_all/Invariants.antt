use Rattle.dc_door.specs.Centres.{all_seen}
use Rattle.dc_host.specs.Hosts.{AreOpened}
use Rattle.dc_host.proofs.hosts.open_all.Given as goal

abbrev pub invariant-kept : goal.invariant-kept
invariant-kept l = AreOpened l.callers (all_seen l.yielded) l.opened
