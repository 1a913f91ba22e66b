use Rattle.std.proofs.Common.{◌≡◌, refl, ap, ◌∙◌, subst}
use Rattle.dc_talk.specs.Calls.{Ends}
use Rattle.script_core.specs.Deeds.{line_on}
use Rattle.client_stub.specs.Playing.{StubView, beside}
use Rattle.dc_talk.proofs.Acting.{cut_none}
use Rattle.client_stub.proofs.Growth.{on_err}
use Rattle.client_stub.proofs.Calling.{link_ended, makes_call}
use Rattle.client_stub.proofs.stub.Stub.call.Goals as goal

pub returns-in_err-outcome-clause-short : goal.returns-in_err-outcome-clause-short
returns-in_err-outcome-clause-short c = λ door. on_err _ (cut_none _ _ _ refl)

pub returns-in_err-line-clause-short : goal.returns-in_err-line-clause-short
returns-in_err-line-clause-short c = λ door. on_err _ (cut_none _ _ _ refl)

pub returns-in_err-note_call-clause-linked : goal.returns-in_err-note_call-clause-linked
returns-in_err-note_call-clause-linked c = link_ended _ _ _ _ c.in_ok-outcome.ensures.ends ∙ ap (λ (s : StubView). s.client.link) c.self.view_is

pub returns-clause-makes : goal.returns-clause-makes
returns-clause-makes c = λ door.
    let s : StubView = c.args.self.now in
    let on = c.args.on.now in
    let out = c.in_ok-outcome.outcome in
    let client : c.client-client.result ≡ s.client.client = c.client-client.ensures ∙ ap (λ (s : StubView). s.client.client) c.self.view_is in
    let ends : Ends s.client c.call.new.self on.call out = subst (λ (s : StubView). Ends s.client c.call.new.self on.call out) c.self.view_is c.in_ok-outcome.ensures.ends in
    makes_call (beside s door c.args.log.now) (record { client = c.call.new.self; armed = c.self.inside.armed }) on out c.note_call.new.log c.in_ok-line.line c.needs_fetch-needs.result ends
    (ap (λ (s : StubView). s.armed) c.self.view_is)
    (c.in_ok-line.ensures ∙ ap (λ n. line_on n on out) client)
    c.needs_fetch-needs.ensures
    c.in_ok-note_call.ensures.ok

pub returns-clause-linked : goal.returns-clause-linked
returns-clause-linked c = link_ended _ _ _ _ c.in_ok-outcome.ensures.ends ∙ ap (λ (s : StubView). s.client.link) c.self.view_is
