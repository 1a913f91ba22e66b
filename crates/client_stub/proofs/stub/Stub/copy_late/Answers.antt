use Rattle.std.proofs.Common.{◌≡◌, refl, ap, ◌∙◌}
use Rattle.dc_talk.specs.declared.ask.Ask.TheVariants.{Commit as CommitAsk}
use Rattle.dc_talk.specs.declared.log.Fate.TheVariants.{Unheard}
use Rattle.dc_talk.specs.Acting.{acting}
use Rattle.dc_talk.proofs.Acting.{leaves_ask, cut_unasked, cut_asked}
use Rattle.client_stub.specs.Playing.{StubView, beside}
use Rattle.client_stub.proofs.Growth.{on_err, cut_done}
use Rattle.client_stub.proofs.LateCopies.{again_takes}
use Rattle.client_stub.proofs.stub.Stub.copy_late.Goals as goal

pub returns-in_err-say-clause-short : goal.returns-in_err-say-clause-short
returns-in_err-say-clause-short g c =
    let a = acting (g.D.Door.shown c.args.door.now) c.args.log.now in
    on_err _ (cut_unasked a (acting (g.D.Door.shown c.ask.new.self) c.args.log.now) refl c.in_err-say.ensures.none)

pub returns-in_err-push-clause-short : goal.returns-in_err-push-clause-short
returns-in_err-push-clause-short g c =
    let a = acting (g.D.Door.shown c.args.door.now) c.args.log.now in
    on_err _ (cut_asked a (acting (g.D.Door.shown c.ask.new.self) c.push.new.self) _ _ c.in_err-push.ensures.err c.in_ok-say.ensures.asked)

pub returns-in_err-tell-clause-short : goal.returns-in_err-tell-clause-short
returns-in_err-tell-clause-short g c =
    let a = acting (g.D.Door.shown c.args.door.now) c.args.log.now in
    let b = acting (g.D.Door.shown c.ask.new.self) c.push.new.self in
    let say = c.in_ok-say.say in
    let leaves = leaves_ask a b c.args.centre (CommitAsk c.args.tx) (Unheard say) say refl c.requires.centre c.in_ok-say.ensures.asked c.in_ok-push.ensures.ok in
    on_err _ (cut_done a b c.tell.new.log _ leaves c.in_err-tell.ensures.err)

pub returns-clause-takes : goal.returns-clause-takes
returns-clause-takes g c =
    let client : c.client-client.result ≡ c.args.self.now.client.client = c.client-client.ensures ∙ ap (λ (s : StubView). s.client.client) c.self.view_is in
    again_takes (beside c.args.self.now (g.D.Door.shown c.args.door.now) c.args.log.now) (g.D.Door.shown c.ask.new.self) c.args.centre c.args.number c.args.tx c.in_ok-say.say c.push.new.self c.tell.new.log c.client-client.result c.again_line-line.result c.requires.sent c.requires.centre c.in_ok-say.ensures.asked c.in_ok-push.ensures.ok client c.again_line-line.ensures c.in_ok-tell.ensures.ok
