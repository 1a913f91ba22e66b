use Rattle.std.proofs.Common.{◌≤◌, length, arith}
use Rattle.thread_run.proofs.Crews.{callers_cut, cast_made}
use Rattle.thread_run.proofs.casting.cast_of.Goals as goal

pub returns : goal.returns
returns c =
    let one = c.split_off-2.new.self in
    let enough : 1 ≤ length one.items = omega (arith, c.in_ok-players.ensures.len, one.ok.0) in
    cast_made c.args.n c.args.clients c.args.parts c.in_ok-callers.callers.items c.remove-operator.result _ _ _ _ c.in_ok-callers.ensures
    (callers_cut c.in_ok-callers.callers.items c.split_off.new.self.items one.items _ _ c.remove-operator.result _ c.in_ok-split_off.ensures.items c.in_ok-split_off.ensures.tail c.in_ok-players.ensures.tail c.in_ok-players.ensures.items enough c.remove-operator.ensures.value)
    c.requires.stubs c.in_ok-players_of.ensures c.in_ok-crews_of.ensures
