use Rattle.client_stub.specs.Playing.{beside}
use Rattle.client_stub.proofs.Growth.{on_err, cut_grown}
use Rattle.client_stub.proofs.Calling.{called_again, called_once}
use Rattle.client_stub.proofs.stub.Stub.call_on.Goals as goal

pub returns-in_err-fetch-clause-short : goal.returns-in_err-fetch-clause-short
returns-in_err-fetch-clause-short g c =
    let door = g.D.Door.shown c.args.door.now in
    on_err _ (cut_grown (beside c.args.self.now door c.args.log.now) (beside c.call.new.self door c.call.new.log) _ _ (c.in_ok-call.ensures.makes door).grows c.in_err-fetch.ensures.short)

pub returns-in_ok-fetch-clause-grows : goal.returns-in_ok-fetch-clause-grows
returns-in_ok-fetch-clause-grows g c =
    let door = g.D.Door.shown c.args.door.now in
    called_again (beside c.args.self.now door c.args.log.now) (beside c.call.new.self door c.call.new.log) (beside c.fetch.new.self (g.D.Door.shown c.fetch.new.door) c.fetch.new.log) c.args.on.now c.in_ok-call.field-0 c.if-branch.true (c.in_ok-call.ensures.makes door) c.in_ok-fetch.ensures.grows

pub returns-else-branch-clause-grows : goal.returns-else-branch-clause-grows
returns-else-branch-clause-grows g c =
    let door = g.D.Door.shown c.args.door.now in
    called_once (beside c.args.self.now door c.args.log.now) (beside c.call.new.self door c.call.new.log) c.args.on.now c.in_ok-call.field-0 c.if-branch.false (c.in_ok-call.ensures.makes door)
