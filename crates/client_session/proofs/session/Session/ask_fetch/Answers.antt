use Rattle.std.proofs.Common.{◌≡◌, Some, refl, sym, ap, ◌∙◌}
use Rattle.dc_talk.specs.Clients.{Client}
use Rattle.client_session.proofs.Held.{gives_fetch}
use Rattle.client_session.proofs.session.Session.ask_fetch.Goals as goal

pub returns-in-Some-clause-gives : goal.returns-in-Some-clause-gives
returns-in-Some-clause-gives c =
    let linked : c.args.self.now.link ≡ Some c.in-Some.link = sym (ap (λ (s : Client). s.link) c.self.view_is) ∙ c.in-Some.is in
    rw c.fetch_of.ensures (gives_fetch c.args.self.now c.args.object.now c.in-Some.link.centre (record { link = c.in-Some.link; linked = linked; centre = refl }))
