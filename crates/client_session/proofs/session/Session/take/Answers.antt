use Rattle.std.proofs.Common.{length, ap}
use Rattle.client_session.proofs.Standing.{fetched}
use Rattle.client_session.proofs.session.Session.take.Goals as goal

pub invariant_of-self-2 : goal.invariant_of-self-2
invariant_of-self-2 c =
    let wide = ap length (rw (← c.self.view_is) at c.requires) in
    rw (c.in_ok-keep.ensures.ok, c.in_ok-keep.ensures.capacity) (fetched _ (record { object = c.args.object.now; vector = c.args.at.now; state = c.args.state }) c.self.inside.folded.entries c.let_go.new.folded.entries c.self.inside.past c.leave.new.past wide c.self.invariant c.let_go.ensures.gone c.let_go.ensures.apart c.leave.ensures)
