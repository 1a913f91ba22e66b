use Rattle.std.proofs.Common.{sym, ap, length, ◌∙◌}
use Rattle.dc_talk.specs.Clients.{next_dot}
use Rattle.object_lists.proofs.Ops.{no_error}
use Rattle.client_session.proofs.Standing.{pushed, let_go, failed}
use Rattle.client_session.proofs.session.Session.push_update.Goals as goal

pub invariant_of-self : goal.invariant_of-self
invariant_of-self c =
    let same = failed c.push-pushed.result (sym c.is_err.ensures.value ∙ c.if-is_err.true) c.push-pushed.ensures.err in
    rw same (let_go _ c.args.update.object c.self.inside.folded.entries c.follow.new.folded.entries c.let_go.new.folded.entries c.self.inside.past c.leave.new.past c.self.invariant c.follow.ensures.apart c.let_go.ensures.gone c.let_go.ensures.apart c.leave.ensures)

pub invariant_of-self-else-is_err : goal.invariant_of-self-else-is_err
invariant_of-self-else-is_err c =
    let more = no_error c.push-pushed.result (sym c.is_err.ensures.value ∙ c.if-is_err.false) c.push-pushed.ensures.ok in
    let dot_is = c.next_dot.ensures ∙ ap next_dot (sym c.self.view_is) in
    let some = rw (← c.self.view_is) at c.requires.is_open in
    let room = rw (← c.self.view_is) at c.requires.place in
    rw more (pushed _ c.args.update c.self.inside.folded.entries c.follow.new.folded.entries c.self.inside.past c.leave.new.past _ _ some room c.requires.modest c.self.invariant dot_is (ap length c.updates_of.ensures) c.follow.ensures.apart c.follow.ensures.there c.leave.ensures)
