use Rattle.std.proofs.Common.{◌≡◌, ap, ◌∙◌}
use Rattle.dc_talk.specs.Acting.{acting}
use Rattle.dc_talk.proofs.Doors.{may_done}
use Rattle.dc_talk.proofs.Acting.{cut_quiet}
use Rattle.client_stub.specs.Playing.{StubView, beside}
use Rattle.client_stub.proofs.Growth.{on_err}
use Rattle.client_stub.proofs.Sending.{asked_for}
use Rattle.client_stub.proofs.stub.Stub.ask.Goals as goal

pub returns-in_err-push-clause-short : goal.returns-in_err-push-clause-short
returns-in_err-push-clause-short g c =
    let a = acting (g.D.Door.shown c.args.door.now) c.args.log.now in
    on_err _ (cut_quiet a (acting (g.D.Door.shown c.reach.new.door) c.push.new.self) c.in_err-push.ensures.err (may_done _ _ _ c.in_ok-fate.ensures.door))

pub returns-clause-asked : goal.returns-clause-asked
returns-clause-asked g c =
    let s : StubView = c.args.self.now in
    let e = c.args.errand in
    let client : c.client-client.result ≡ s.client.client = c.client-client.ensures ∙ ap (λ (s : StubView). s.client.client) c.self.view_is in
    asked_for e (beside s (g.D.Door.shown c.args.door.now) c.args.log.now) c.reach.new.self (g.D.Door.shown c.reach.new.door) (c.in_ok-fate.fate, c.in_ok-fate.took) c.push.new.self c.client-client.result (c.line_after-line.result, c.next_after-next.result)
    c.requires.gives c.requires.centre
    (record { fate = c.in_ok-fate.ensures.fate; took = c.in_ok-fate.ensures.took; stub = c.in_ok-fate.ensures.stub; door = c.in_ok-fate.ensures.door; room = c.in_ok-fate.ensures.room })
    c.in_ok-push.ensures.ok
    client
    c.line_after-line.ensures
    c.next_after-next.ensures
