use Rattle.client_session.proofs.Held.{has_state}
use Rattle.client_session.proofs.Standing.{brought}
use Rattle.client_session.proofs.session.Session.bring.Goals as goal

pub invariant_of-self-2 : goal.invariant_of-self-2
invariant_of-self-2 c =
    let at = rw (← c.self.view_is) at c.requires.at in
    let held = rw (← c.self.view_is) at c.requires.holds in
    let had = has_state c.args.object.now _ c.args.from.now held in
    rw (c.in_ok-bring.ensures.ok c.args.from.now _ had, c.in_ok-bring.ensures.capacity) (brought _ c.args.object.now c.args.from.now c.args.at.now _ c.args.tail.now c.self.inside.folded.entries c.take_over.new.folded.entries c.self.inside.past c.take_over.new.past at c.self.invariant had c.take_over.ensures.past c.take_over.ensures.apart c.take_over.ensures.there)
