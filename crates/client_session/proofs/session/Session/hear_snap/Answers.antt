use Rattle.std.proofs.Common.{sym}
use Rattle.std.proofs.lemmas.Bool.{OnTrue_at}
use Rattle.client_session.proofs.Standing.{again, snapped}
use Rattle.client_session.proofs.session.Session.hear_snap.Goals as goal

pub invariant_of-self : goal.invariant_of-self
invariant_of-self c =
    let follows = rw (← c.self.view_is) at (sym c.if-can_follow.ensures) in
    let at = rw (← c.self.view_is) at (OnTrue_at c.if-is_at.true c.is_at.ensures) in
    rw c.max-clock.ensures (again _ c.args.vector.now c.args.mine c.args.top c.self.inside.folded.entries c.self.inside.past c.self.invariant follows at.0 at.1)

pub invariant_of-self-then-can_follow : goal.invariant_of-self-then-can_follow
invariant_of-self-then-can_follow c =
    let follows = rw (← c.self.view_is) at (sym c.if-can_follow.ensures) in
    rw (c.max-clock.ensures, c.turn.ensures.pending) (snapped _ c.args.vector.now c.args.mine c.args.top c.self.inside.folded.entries c.turn.new.folded.entries c.self.inside.past c.turn.new.past c.self.invariant follows c.turn.ensures.none c.turn.ensures.was)
