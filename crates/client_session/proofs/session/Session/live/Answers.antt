use Rattle.std.proofs.Common.{sym, ap, ◌∙◌}
use Rattle.dc_talk.specs.Clients.{next_dot}
use Rattle.client_session.proofs.Standing.{looked, missed}
use Rattle.client_session.proofs.session.Session.live.Goals as goal

pub invariant_of-self : goal.invariant_of-self
invariant_of-self c = rw c.find.follows.holds-at-none (missed _ c.args.object.now c.self.inside.folded.entries c.self.inside.past c.self.invariant)

pub invariant_of-self-in-None : goal.invariant_of-self-in-None
invariant_of-self-in-None c = rw c.find.follows.holds-at-none (missed _ c.args.object.now c.self.inside.folded.entries c.self.inside.past c.self.invariant)

pub invariant_of-self-in_err-stand-in-Some : goal.invariant_of-self-in_err-stand-in-Some
invariant_of-self-in_err-stand-in-Some c =
    let dot = c.next_dot-dot.ensures ∙ ap next_dot (sym c.self.view_is) in
    rw c.find.follows.holds-at-none (looked _ c.args.object.now c.self.inside.folded.entries c.stand.new.folded.entries c.self.inside.past c.in-Some.base.now _ _ c.self.invariant (rw c.in-Some.is at c.in_ok-find.ensures.value) dot c.updates_of-updates.ensures c.stand.ensures.apart c.stand.ensures.kept)

pub invariant_of-self-in_err-tags_of-in-Some : goal.invariant_of-self-in_err-tags_of-in-Some
invariant_of-self-in_err-tags_of-in-Some c =
    let dot = c.next_dot-dot.ensures ∙ ap next_dot (sym c.self.view_is) in
    rw c.find.follows.holds-at-none (looked _ c.args.object.now c.self.inside.folded.entries c.stand.new.folded.entries c.self.inside.past c.in-Some.base.now _ _ c.self.invariant (rw c.in-Some.is at c.in_ok-find.ensures.value) dot c.updates_of-updates.ensures c.stand.ensures.apart c.stand.ensures.kept)

pub invariant_of-self-in-Some : goal.invariant_of-self-in-Some
invariant_of-self-in-Some c =
    let dot = c.next_dot-dot.ensures ∙ ap next_dot (sym c.self.view_is) in
    rw c.find.follows.holds-at-none (looked _ c.args.object.now c.self.inside.folded.entries c.stand.new.folded.entries c.self.inside.past c.in-Some.base.now _ _ c.self.invariant (rw c.in-Some.is at c.in_ok-find.ensures.value) dot c.updates_of-updates.ensures c.stand.ensures.apart c.stand.ensures.kept)
