use Rattle.std.proofs.Common.{◌≡◌, refl, ap, sym, ◌∙◌, Ok, Err, None, Some}
use Rattle.client_session.specs.declared.session.Facts.{Facts}
use Rattle.client_session.specs.SessionAnswers.{commit_ask}
use Rattle.client_stub.specs.Playing.{StubView, beside}
use Rattle.dc_talk.proofs.Acting.{cut_none}
use Rattle.client_stub.proofs.Growth.{on_err}
use Rattle.client_stub.proofs.Flushes.{flush_pushes, flush_done, flush_unlinked}
use Rattle.client_stub.proofs.stub.Stub.push_on.Goals as goal

pub returns-in_err-tell-in-Ok-None-clause-short : goal.returns-in_err-tell-in-Ok-None-clause-short
returns-in_err-tell-in-Ok-None-clause-short g c = on_err _ (cut_none _ _ _ c.in_err-tell-in-Ok-None.ensures.err)

pub returns-in_err-tell-in-Err-NotConnected-clause-short : goal.returns-in_err-tell-in-Err-NotConnected-clause-short
returns-in_err-tell-in-Err-NotConnected-clause-short g c = on_err _ (cut_none _ _ _ c.in_err-tell-in-Err-NotConnected.ensures.err)

pub returns-in-Err-clause-short : goal.returns-in-Err-clause-short
returns-in-Err-clause-short g c = cut_none _ _ _ refl

pub returns-in_ok-tell-in-Ok-None-clause-goes : goal.returns-in_ok-tell-in-Ok-None-clause-goes
returns-in_ok-tell-in-Ok-None-clause-goes g c =
    let client : c.client-client.result ≡ c.args.self.now.client.client = c.client-client.ensures ∙ ap (λ (s : StubView). s.client.client) c.self.view_is in
    let own : c.facts-own.result.own ≡ c.args.self.now.client.own = ap (λ (f : Facts). f.own) c.facts-own.ensures ∙ ap (λ (s : StubView). s.client.own) c.self.view_is in
    let asked : commit_ask c.args.self.now.client ≡ Ok None = ap (λ (s : StubView). commit_ask s.client) (sym c.self.view_is) ∙ (sym (c.in-Ok-None.ensures.ask (λ e. cc)) ∙ ap Ok c.in-Ok-None.field-0-is) in
    flush_done (beside c.args.self.now (g.D.Door.shown c.args.door.now) c.args.log.now) c.tell.new.log c.client-client.result c.facts-own.result.own asked client own c.in_ok-tell-in-Ok-None.ensures.ok

pub returns-in_ok-tell-in-Err-NotConnected-clause-goes : goal.returns-in_ok-tell-in-Err-NotConnected-clause-goes
returns-in_ok-tell-in-Err-NotConnected-clause-goes g c =
    let client : c.client-client.result ≡ c.args.self.now.client.client = c.client-client.ensures ∙ ap (λ (s : StubView). s.client.client) c.self.view_is in
    let none : c.args.self.now.client.link ≡ None = ap (λ (s : StubView). s.client.link) (sym c.self.view_is) ∙ c.in-Err-NotConnected.ensures.not_connected.0 (ap Err c.in-Err-NotConnected.field-0-is) in
    flush_unlinked (beside c.args.self.now (g.D.Door.shown c.args.door.now) c.args.log.now) c.tell-in-Err-NotConnected.new.log c.client-client.result none client c.in_ok-tell-in-Err-NotConnected.ensures.ok

pub returns-in_ok-next-in-Ok-Some-clause-goes : goal.returns-in_ok-next-in-Ok-Some-clause-goes
returns-in_ok-next-in-Ok-Some-clause-goes g c =
    let asked : commit_ask c.args.self.now.client ≡ Ok (Some (c.in-Ok-Some.centre, c.in-Ok-Some.ask)) = ap (λ (s : StubView). commit_ask s.client) (sym c.self.view_is) ∙ (sym (c.in-Ok-Some.ensures.ask (λ e. cc)) ∙ ap Ok c.in-Ok-Some.field-0-is) in
    flush_pushes (beside c.args.self.now (g.D.Door.shown c.args.door.now) c.args.log.now) (beside c.send.new.self (g.D.Door.shown c.send.new.door) c.send.new.log) c.in-Ok-Some.centre c.in-Ok-Some.ask c.number_in.result c.in_ok-next-in-Ok-Some.next c.is_more.result asked c.number_in.ensures c.is_more.ensures c.in_ok-next-in-Ok-Some.ensures.runs
