use Rattle.client_session.proofs.Standing.{forgot}
use Rattle.client_session.proofs.session.Session.hear_pruned.Goals as goal

pub invariant_of-self : goal.invariant_of-self
invariant_of-self c =
    rw c.forget.ensures.entries (forgot _ c.args.object.now c.self.inside.folded.entries c.let_go.new.folded.entries c.self.inside.past c.leave.new.past c.self.invariant c.let_go.ensures.gone c.let_go.ensures.apart c.leave.ensures)
