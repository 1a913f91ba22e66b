use Rattle.std.proofs.Common.{rules, ◌≡◌, get_or, sym, subst}
use Rattle.host_lock.specs.Hosts.{IsOf}
use Rattle.dc_host.specs.HostDoors.{CentreHost, CentrePass}
use Rattle.dc_host.proofs.Passes.{zip_at, has_called, has_not_called}
use Rattle.dc_host.proofs.host_door.call_at.Goals as goal

pub call_one-requires : goal.call_one-requires
call_one-requires g c =
    let ps = c.args.passes.now.items in let hs = c.args.hosts.now in
    let pass : get_or ps c.args.place c.index_mut.result.now ≡ c.index_mut.result.now = search rules in
    let host : get_or hs c.args.place c.index-hosts-place.result ≡ c.index-hosts-place.result = search rules in
    subst (λ (p : CentrePass). IsOf c.index-hosts-place.result p) pass (subst (λ (h : CentreHost). IsOf h (get_or ps c.args.place c.index_mut.result.now)) host (zip_at IsOf hs ps c.args.place c.index-hosts-place.result c.index_mut.result.now c.requires.passes.1.each c.requires.place))

pub returns-clause-called : goal.returns-clause-called
returns-clause-called g c =
    let ps = c.args.passes.now.items in
    let pass : get_or ps c.args.place c.index_mut.result.now ≡ c.index_mut.result.now = search rules in
    has_called ps c.args.place c.index_mut.result.now c.call_one.new.pass c.requires.place (sym pass) c.args.ask.now c.call_one.result c.call_one.ensures.called

pub returns-clause-none : goal.returns-clause-none
returns-clause-none g c =
    let ps = c.args.passes.now.items in
    let pass : get_or ps c.args.place c.index_mut.result.now ≡ c.index_mut.result.now = search rules in
    has_not_called ps c.args.place c.index_mut.result.now c.call_one.new.pass c.requires.place (sym pass) c.call_one.result c.call_one.ensures.none
