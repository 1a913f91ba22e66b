use Rattle.std.proofs.Common.{◌≡◌, refl, ap, sym, ◌∙◌, Ok, Err, None, Some}
use Rattle.client_session.specs.SessionAnswers.{commit_ask}
use Rattle.client_stub.specs.Playing.{StubView, beside}
use Rattle.dc_talk.proofs.Acting.{cut_none}
use Rattle.client_stub.proofs.Growth.{on_err}
use Rattle.client_stub.proofs.Stepping.{push_takes, idle_takes, unconnected_takes}
use Rattle.client_stub.proofs.stub.Stub.push.Goals as goal

pub returns-in_err-tell-in-Ok-None-clause-short : goal.returns-in_err-tell-in-Ok-None-clause-short
returns-in_err-tell-in-Ok-None-clause-short g c = on_err _ (cut_none _ _ _ c.in_err-tell-in-Ok-None.ensures.err)

pub returns-in_err-tell-in-Err-NotConnected-clause-short : goal.returns-in_err-tell-in-Err-NotConnected-clause-short
returns-in_err-tell-in-Err-NotConnected-clause-short g c = on_err _ (cut_none _ _ _ c.in_err-tell-in-Err-NotConnected.ensures.err)

pub returns-in-Err-clause-short : goal.returns-in-Err-clause-short
returns-in-Err-clause-short g c = cut_none _ _ _ refl

pub returns-in_ok-tell-in-Ok-None-clause-takes : goal.returns-in_ok-tell-in-Ok-None-clause-takes
returns-in_ok-tell-in-Ok-None-clause-takes g c =
    let client : c.client-client.result ≡ c.args.self.now.client.client = c.client-client.ensures ∙ ap (λ (s : StubView). s.client.client) c.self.view_is in
    let asked : commit_ask c.args.self.now.client ≡ Ok None = ap (λ (s : StubView). commit_ask s.client) (sym c.self.view_is) ∙ (sym (c.in-Ok-None.ensures.ask (λ e. cc)) ∙ ap Ok c.in-Ok-None.field-0-is) in
    idle_takes (beside c.args.self.now (g.D.Door.shown c.args.door.now) c.args.log.now) c.tell.new.log c.client-client.result asked client c.in_ok-tell-in-Ok-None.ensures.ok

pub returns-in_ok-tell-in-Err-NotConnected-clause-takes : goal.returns-in_ok-tell-in-Err-NotConnected-clause-takes
returns-in_ok-tell-in-Err-NotConnected-clause-takes g c =
    let client : c.client-client.result ≡ c.args.self.now.client.client = c.client-client.ensures ∙ ap (λ (s : StubView). s.client.client) c.self.view_is in
    let none : c.args.self.now.client.link ≡ None = ap (λ (s : StubView). s.client.link) (sym c.self.view_is) ∙ c.in-Err-NotConnected.ensures.not_connected.0 (ap Err c.in-Err-NotConnected.field-0-is) in
    unconnected_takes (beside c.args.self.now (g.D.Door.shown c.args.door.now) c.args.log.now) c.tell-in-Err-NotConnected.new.log c.client-client.result none client c.in_ok-tell-in-Err-NotConnected.ensures.ok

pub returns-in_ok-send-in-Ok-Some-clause-takes : goal.returns-in_ok-send-in-Ok-Some-clause-takes
returns-in_ok-send-in-Ok-Some-clause-takes g c =
    let asked : commit_ask c.args.self.now.client ≡ Ok (Some (c.in-Ok-Some.centre, c.in-Ok-Some.ask)) = ap (λ (s : StubView). commit_ask s.client) (sym c.self.view_is) ∙ (sym (c.in-Ok-Some.ensures.ask (λ e. cc)) ∙ ap Ok c.in-Ok-Some.field-0-is) in
    push_takes (beside c.args.self.now (g.D.Door.shown c.args.door.now) c.args.log.now) (beside c.send.new.self (g.D.Door.shown c.send.new.door) c.send.new.log) c.in-Ok-Some.centre c.in-Ok-Some.ask c.number_in.result c.in_ok-send-in-Ok-Some.field-0 asked c.number_in.ensures c.in_ok-send-in-Ok-Some.ensures.runs
