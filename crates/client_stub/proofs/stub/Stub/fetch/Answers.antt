use Rattle.dc_talk.specs.Acting.{acting}
use Rattle.client_stub.specs.Playing.{beside}
use Rattle.client_stub.proofs.Growth.{on_err}
use Rattle.client_stub.proofs.Fetching.{cut_sought, fetch_again, fetch_called, fetch_done}
use Rattle.client_stub.proofs.stub.Stub.fetch.Goals as goal

pub returns-in_err-call-in-GoesOn-clause-short : goal.returns-in_err-call-in-GoesOn-clause-short
returns-in_err-call-in-GoesOn-clause-short g c =
    let p = beside c.args.self.now (g.D.Door.shown c.args.door.now) c.args.log.now in
    let door = g.D.Door.shown c.seek.new.door in
    on_err _ (cut_sought p (beside c.seek.new.self door c.seek.new.log) c.args.on.now c.in_ok-seek.field-0 (acting door c.call.new.log) c.in_ok-seek.ensures.seeks (c.in_err-call-in-GoesOn.ensures.short door))

pub returns-in-Done-clause-grows : goal.returns-in-Done-clause-grows
returns-in-Done-clause-grows g c =
    let p = beside c.args.self.now (g.D.Door.shown c.args.door.now) c.args.log.now in
    fetch_done p (beside c.seek.new.self (g.D.Door.shown c.seek.new.door) c.seek.new.log) c.args.on.now c.in_ok-seek.field-0 c.in-Done.is c.in_ok-seek.ensures.seeks

pub returns-in_ok-call-in-GoesOn-clause-grows : goal.returns-in_ok-call-in-GoesOn-clause-grows
returns-in_ok-call-in-GoesOn-clause-grows g c =
    let p = beside c.args.self.now (g.D.Door.shown c.args.door.now) c.args.log.now in
    let door = g.D.Door.shown c.seek.new.door in
    fetch_called p (beside c.seek.new.self door c.seek.new.log) (beside c.call.new.self door c.call.new.log) c.args.on.now c.in_ok-seek.field-0 c.in_ok-call-in-GoesOn.field-0 c.in-GoesOn.is c.in_ok-seek.ensures.seeks (c.in_ok-call-in-GoesOn.ensures.makes door)

pub returns-in_err-fetch_state-in-AsksOn-clause-short : goal.returns-in_err-fetch_state-in-AsksOn-clause-short
returns-in_err-fetch_state-in-AsksOn-clause-short g c =
    let p = beside c.args.self.now (g.D.Door.shown c.args.door.now) c.args.log.now in
    let door = g.D.Door.shown c.seek.new.door in
    on_err _ (cut_sought p (beside c.seek.new.self door c.seek.new.log) c.args.on.now c.in_ok-seek.field-0 (acting (g.D.Door.shown c.fetch_state.new.door) c.fetch_state.new.log) c.in_ok-seek.ensures.seeks c.in_err-fetch_state-in-AsksOn.ensures.short)

pub returns-in_ok-fetch_state-in-AsksOn-clause-grows : goal.returns-in_ok-fetch_state-in-AsksOn-clause-grows
returns-in_ok-fetch_state-in-AsksOn-clause-grows g c =
    let p = beside c.args.self.now (g.D.Door.shown c.args.door.now) c.args.log.now in
    fetch_again p (beside c.seek.new.self (g.D.Door.shown c.seek.new.door) c.seek.new.log) (beside c.fetch_state.new.self (g.D.Door.shown c.fetch_state.new.door) c.fetch_state.new.log) c.args.on.now c.in_ok-seek.field-0 c.in-AsksOn.is c.in_ok-seek.ensures.seeks c.in_ok-fetch_state-in-AsksOn.ensures.grows
