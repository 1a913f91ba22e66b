use Rattle.std.proofs.Common.{◌+◌, sym, ap, ◌∙◌}
use Rattle.dc_talk.specs.Clients.{next_dot}
use Rattle.client_session.proofs.Standing.{committed}
use Rattle.client_session.proofs.session.Session.commit_draft.Goals as goal

pub invariant_of-self : goal.invariant_of-self
invariant_of-self c =
    let dot_is = c.next_dot-dot.ensures ∙ ap next_dot (sym c.self.view_is) in
    let place = rw (← c.self.view_is) at c.requires.place in
    rw (c.take.ensures.after, c.in-Ok.ensures.ok) (committed _ c.in-Some.updates _ c.self.inside.folded.entries c.self.inside.past (sym c.in-Some.ensures.value) (λ i. record { dot = dot_is i; rank = c.self.inside.clock + 1; snap = c.self.inside.vector; updates = c.in-Some.updates }) place c.self.invariant)
