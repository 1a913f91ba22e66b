use Rattle.std.proofs.Common.{sym, ◌∙◌}
use Rattle.dc_talk.specs.Acting.{acting}
use Rattle.client_stub.specs.Playing.{beside}
use Rattle.client_stub.proofs.Growth.{on_err}
use Rattle.client_stub.proofs.Fetching.{cut_sought, state_called, state_done}
use Rattle.client_stub.proofs.stub.Stub.fetch_state.Goals as goal

pub returns-in_err-call-clause-short : goal.returns-in_err-call-clause-short
returns-in_err-call-clause-short g c =
    let p = beside c.args.self.now (g.D.Door.shown c.args.door.now) c.args.log.now in
    let door = g.D.Door.shown c.seek.new.door in
    on_err _ (cut_sought p (beside c.seek.new.self door c.seek.new.log) c.args.on.now c.in_ok-next.next (acting door c.call.new.log) c.in_ok-next.ensures.seeks (c.in_err-call.ensures.short door))

pub returns-in_ok-call-clause-grows : goal.returns-in_ok-call-clause-grows
returns-in_ok-call-clause-grows g c =
    let p = beside c.args.self.now (g.D.Door.shown c.args.door.now) c.args.log.now in
    let door = g.D.Door.shown c.seek.new.door in
    state_called p (beside c.seek.new.self door c.seek.new.log) (beside c.call.new.self door c.call.new.log) c.args.on.now c.in_ok-next.next c.in_ok-call.field-0 (sym c.is_more.ensures ∙ c.if-is_more.true) c.in_ok-next.ensures.seeks (c.in_ok-call.ensures.makes door)

pub returns-else-is_more-clause-grows : goal.returns-else-is_more-clause-grows
returns-else-is_more-clause-grows g c =
    let p = beside c.args.self.now (g.D.Door.shown c.args.door.now) c.args.log.now in
    state_done p (beside c.seek.new.self (g.D.Door.shown c.seek.new.door) c.seek.new.log) c.args.on.now c.in_ok-next.next (sym c.is_more.ensures ∙ c.if-is_more.false) c.in_ok-next.ensures.seeks
