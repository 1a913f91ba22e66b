use Rattle.std.proofs.Common.{◌≡◌, refl, sym, ap, ◌∙◌}
use Rattle.client_stub.specs.Playing.{StubView, beside}
use Rattle.dc_talk.proofs.Acting.{cut_none}
use Rattle.client_stub.proofs.Growth.{on_err}
use Rattle.client_stub.proofs.LateCopies.{again_none}
use Rattle.client_stub.proofs.stub.Stub.again.Goals as goal

pub returns-in_err-tx-in-Some-clause-short : goal.returns-in_err-tx-in-Some-clause-short
returns-in_err-tx-in-Some-clause-short g c = on_err _ (cut_none _ _ _ refl)

pub returns-in_err-tell-in-None-clause-short : goal.returns-in_err-tell-in-None-clause-short
returns-in_err-tell-in-None-clause-short g c = on_err _ (cut_none _ _ _ c.in_err-tell-in-None.ensures.err)

pub returns-in_ok-tell-in-None-clause-takes : goal.returns-in_ok-tell-in-None-clause-takes
returns-in_ok-tell-in-None-clause-takes g c =
    let client : c.client-client.result ≡ c.args.self.now.client.client = c.client-client.ensures ∙ ap (λ (s : StubView). s.client.client) c.self.view_is in
    again_none (beside c.args.self.now (g.D.Door.shown c.args.door.now) c.args.log.now) c.tell.new.log c.args.centre c.args.number c.client-client.result (sym c.in-None.ensures) client c.in_ok-tell-in-None.ensures.ok
