use Rattle.dc_door.specs.Centres.{all_seen}
use Rattle.dc_host.proofs.Rows.{opened_more, passes_for}
use Rattle.dc_host.proofs.hosts.open_all.Goals as goal

pub kept-preserved : goal.kept-preserved
kept-preserved c =
    opened_more c.args.callers c.kept.yielded c.in-Some.one c.kept.opened c.add_host.new.opened c.in_ok-host.host c.in_ok-host.passes.items c.kept.invariant c.in_ok-host.ensures.host c.in_ok-host.ensures.callers c.in_ok-host.ensures.passes c.in_ok-add_host.ensures

pub add_host-requires : goal.add_host-requires
add_host-requires c = passes_for c.args.callers (all_seen c.kept.yielded) c.kept.opened c.in_ok-host.host c.in_ok-host.passes.items c.kept.invariant c.in_ok-host.ensures.passes
