use Rattle.std.proofs.Common.{◌≡◌, ap, sym, ◌∙◌, Ok, Err, None}
use Rattle.client_session.specs.SessionAnswers.{refresh_ask}
use Rattle.client_stub.specs.Playing.{StubView, beside}
use Rattle.dc_talk.proofs.Acting.{cut_none}
use Rattle.client_stub.proofs.Growth.{on_err}
use Rattle.client_stub.proofs.Stepping.{refresh_takes, refresh_unlinked, refresh_open}
use Rattle.client_stub.proofs.stub.Stub.refresh.Goals as goal

pub returns-in_err-tell-in-Err-clause-short : goal.returns-in_err-tell-in-Err-clause-short
returns-in_err-tell-in-Err-clause-short g c = on_err _ (cut_none _ _ _ c.in_err-tell-in-Err.ensures.err)

pub returns-in_err-tell-in-Err-2-clause-short : goal.returns-in_err-tell-in-Err-2-clause-short
returns-in_err-tell-in-Err-2-clause-short g c = on_err _ (cut_none _ _ _ c.in_err-tell-in-Err-2.ensures.err)

pub returns-then-is_not_connected-clause-takes : goal.returns-then-is_not_connected-clause-takes
returns-then-is_not_connected-clause-takes g c =
    let client : c.client-client.result ≡ c.args.self.now.client.client = c.client-client.ensures ∙ ap (λ (s : StubView). s.client.client) c.self.view_is in
    let none : c.args.self.now.client.link ≡ None = ap (λ (s : StubView). s.client.link) (sym c.self.view_is) ∙ c.in-Err.ensures.not_connected.0 (ap Err (c.is_not_connected.ensures.yes c.if-is_not_connected.true)) in
    refresh_unlinked (beside c.args.self.now (g.D.Door.shown c.args.door.now) c.args.log.now) c.tell.new.log c.client-client.result none client c.in_ok-tell-in-Err.ensures.ok

pub returns-in_ok-tell-in-Err-2-clause-takes : goal.returns-in_ok-tell-in-Err-2-clause-takes
returns-in_ok-tell-in-Err-2-clause-takes g c =
    let client : c.client-client.result ≡ c.args.self.now.client.client = c.client-client.ensures ∙ ap (λ (s : StubView). s.client.client) c.self.view_is in
    let other = c.is_not_connected.ensures.other c.if-is_not_connected.false in
    let asked : refresh_ask c.args.self.now.client ≡ Err c.in-Err.refusal = ap (λ (s : StubView). refresh_ask s.client) (sym c.self.view_is) ∙ sym c.in-Err.ensures.ask in
    refresh_open (beside c.args.self.now (g.D.Door.shown c.args.door.now) c.args.log.now) c.tell-in-Err.new.log c.client-client.result c.in-Err.refusal other asked client c.in_ok-tell-in-Err-2.ensures.ok

pub returns-in_ok-send-in-Ok-clause-takes : goal.returns-in_ok-send-in-Ok-clause-takes
returns-in_ok-send-in-Ok-clause-takes g c =
    let asked : refresh_ask c.args.self.now.client ≡ Ok (c.in-Ok.centre, c.in-Ok.ask) = ap (λ (s : StubView). refresh_ask s.client) (sym c.self.view_is) ∙ sym c.in-Ok.ensures.ask in
    refresh_takes (beside c.args.self.now (g.D.Door.shown c.args.door.now) c.args.log.now) (beside c.send.new.self (g.D.Door.shown c.send.new.door) c.send.new.log) c.in-Ok.centre c.in-Ok.ask c.in_ok-send-in-Ok.field-0 asked c.in_ok-send-in-Ok.ensures.runs
