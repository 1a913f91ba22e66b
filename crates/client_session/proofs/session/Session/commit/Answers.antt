use Rattle.client_session.proofs.Standing.{closed, none_open}
use Rattle.client_session.proofs.session.Session.commit.Goals as goal

pub invariant_of-self : goal.invariant_of-self
invariant_of-self c =
    let some = rw (← c.self.view_is) at c.has_updates.ensures.1 in
    closed _ c.self.inside.folded.entries c.self.inside.past (none_open _ c.has_updates.result some c.if-has_updates.false) c.self.invariant
