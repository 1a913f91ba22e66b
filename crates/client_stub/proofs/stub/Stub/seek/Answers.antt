use Rattle.std.proofs.Common.{◌≡◌, ap, sym, ◌∙◌, Ok, Err}
use Rattle.client_session.specs.SessionAnswers.{fetch_ask}
use Rattle.client_stub.specs.Playing.{StubView, beside}
use Rattle.dc_talk.proofs.Acting.{cut_none}
use Rattle.client_stub.proofs.Growth.{on_err}
use Rattle.client_stub.proofs.Fetching.{sought, unlinked}
use Rattle.client_stub.proofs.stub.Stub.seek.Goals as goal

pub returns-in_err-tell-in-Err-clause-short : goal.returns-in_err-tell-in-Err-clause-short
returns-in_err-tell-in-Err-clause-short g c = on_err _ (cut_none _ _ _ c.in_err-tell-in-Err.ensures.err)

pub returns-in_ok-next-in-Ok-clause-seeks : goal.returns-in_ok-next-in-Ok-clause-seeks
returns-in_ok-next-in-Ok-clause-seeks g c =
    let p = beside c.args.self.now (g.D.Door.shown c.args.door.now) c.args.log.now in
    let asked : fetch_ask c.args.self.now.client c.args.on.now.object ≡ Ok (c.in-Ok.centre, c.in-Ok.ask) = ap (λ (s : StubView). fetch_ask s.client c.args.on.now.object) (sym c.self.view_is) ∙ sym c.in-Ok.ensures.ask in
    sought p (beside c.send.new.self (g.D.Door.shown c.send.new.door) c.send.new.log) c.args.on.now c.in-Ok.centre c.in-Ok.ask c.in_ok-next-in-Ok.next asked c.in_ok-next-in-Ok.ensures.runs

pub returns-in_ok-tell-in-Err-clause-seeks : goal.returns-in_ok-tell-in-Err-clause-seeks
returns-in_ok-tell-in-Err-clause-seeks g c =
    let p = beside c.args.self.now (g.D.Door.shown c.args.door.now) c.args.log.now in
    let client : c.client-client.result ≡ c.args.self.now.client.client = c.client-client.ensures ∙ ap (λ (s : StubView). s.client.client) c.self.view_is in
    let asked : fetch_ask c.args.self.now.client c.args.on.now.object ≡ Err c.in-Err.field-0 = ap (λ (s : StubView). fetch_ask s.client c.args.on.now.object) (sym c.self.view_is) ∙ sym c.in-Err.ensures.ask in
    unlinked p c.tell.new.log c.args.on.now c.client-client.result c.in-Err.field-0 asked client c.in_ok-tell-in-Err.ensures.ok
