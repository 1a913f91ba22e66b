use Rattle.std.proofs.Common.{◌≡◌, ◌≤◌, length, take, ◌∙◌, arith, rules}
use Rattle.pair_centre.specs.States.{IsPairFileAround}
use Rattle.pair_centre.specs.Open.{settings_of}
use Rattle.trail_pair.proofs.Groups.{group_asked}
use Rattle.trail_pair.proofs.asking.ask_group.Goals as goal

pub returns-clause-stands : goal.returns-clause-stands
returns-clause-stands g c = λ front has history.
    let old = c.args.pair.now in
    let group = c.args.group.now in
    let asks = c.deref.result.now in
    let says = c.in_ok-says.says.items in
    let m = c.in_ok-says.ensures.moments in
    let many : c.len.result ≡ length says = search rules in
    let enough : length group ≤ length says = omega (arith, many, c.if-len-group.false) in
    group_asked g.D.Disk.stands old c.ask_all.new.self (IsPairFileAround (settings_of old) front (take m.0 asks)) front group asks m.0 says (c.deref.ensures.value ∙ c.in_ok-asks.ensures) enough has history
    (m.1 has.live has.other front c.requires has.live_stands has.other_stands has.is)
