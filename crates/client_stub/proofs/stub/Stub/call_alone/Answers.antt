use Rattle.std.proofs.Common.{◌≡◌, refl, ap, ◌∙◌, subst}
use Rattle.dc_talk.specs.Calls.{Ends}
use Rattle.script_core.specs.Deeds.{call_line}
use Rattle.client_stub.specs.Playing.{StubView, beside}
use Rattle.dc_talk.proofs.Acting.{cut_none}
use Rattle.client_stub.proofs.Growth.{on_err}
use Rattle.client_stub.proofs.Calling.{called_alone, link_ended, link_kept}
use Rattle.client_stub.proofs.stub.Stub.call_alone.Goals as goal

pub returns-in_err-outcome-clause-short : goal.returns-in_err-outcome-clause-short
returns-in_err-outcome-clause-short g c = on_err _ (cut_none _ _ _ refl)

pub returns-in_err-line-clause-short : goal.returns-in_err-line-clause-short
returns-in_err-line-clause-short g c = on_err _ (cut_none _ _ _ refl)

pub returns-in_err-line-clause-linked : goal.returns-in_err-line-clause-linked
returns-in_err-line-clause-linked g c = link_kept (g.D.Door.shown c.args.door.now) c.args.self.now.client c.call.new.self (link_ended _ _ _ _ c.in_ok-outcome.ensures.ends ∙ ap (λ (s : StubView). s.client.link) c.self.view_is) c.requires

pub returns-in_err-note_call-clause-linked : goal.returns-in_err-note_call-clause-linked
returns-in_err-note_call-clause-linked g c = link_kept (g.D.Door.shown c.args.door.now) c.args.self.now.client c.call.new.self (link_ended _ _ _ _ c.in_ok-outcome.ensures.ends ∙ ap (λ (s : StubView). s.client.link) c.self.view_is) c.requires

pub returns-clause-grows : goal.returns-clause-grows
returns-clause-grows g c =
    let s : StubView = c.args.self.now in
    let call = c.args.call.now in
    let out = c.in_ok-outcome.outcome in
    let client : c.client-client.result ≡ s.client.client = c.client-client.ensures ∙ ap (λ (s : StubView). s.client.client) c.self.view_is in
    let ends : Ends s.client c.call.new.self call out = subst (λ (s : StubView). Ends s.client c.call.new.self call out) c.self.view_is c.in_ok-outcome.ensures.ends in
    called_alone (beside s (g.D.Door.shown c.args.door.now) c.args.log.now) (record { client = c.call.new.self; armed = c.self.inside.armed }) call out c.note_call.new.log c.in_ok-line.line ends
    (ap (λ (s : StubView). s.armed) c.self.view_is)
    (c.in_ok-line.ensures ∙ ap (λ n. call_line n call out) client)
    c.in_ok-note_call.ensures.ok

pub returns-clause-linked : goal.returns-clause-linked
returns-clause-linked g c = link_kept (g.D.Door.shown c.args.door.now) c.args.self.now.client c.call.new.self (link_ended _ _ _ _ c.in_ok-outcome.ensures.ends ∙ ap (λ (s : StubView). s.client.link) c.self.view_is) c.requires
