use Rattle.std.proofs.Common.{rules}
use Rattle.dc_talk.specs.Acting.{acting}
use Rattle.script_core.specs.Carrying.{route}
use Rattle.dc_worker.specs.Brings.{StopsAt, incoming}
use Rattle.dc_worker.proofs.Bringing.{receives_none, stops_at_one}
use Rattle.dc_links.proofs.takes.take_one.Goals as goal

pub returns-in-None-clause-receives : goal.returns-in-None-clause-receives
returns-in-None-clause-receives g c = receives_none (route c.args.from c.args.at) (acting (g.D.Door.shown c.args.door.now) c.args.log.now) c.args.inlet.now c.args.taker.now.taken c.take.new.taker.taken c.in-None.ensures.none.0

pub returns-in_err-bring_one-in-Some-clause-stops : goal.returns-in_err-bring_one-in-Some-clause-stops
returns-in_err-bring_one-in-Some-clause-stops g c =
    let a = acting (g.D.Door.shown c.args.door.now) c.args.log.now in
    let e = acting (g.D.Door.shown c.bring_one.new.door) c.bring_one.new.log in
    let stops : StopsAt (incoming a c.args.inlet.now c.args.taker.now.taken) (incoming e c.bring_one.new.inlet c.take.new.taker.taken) = stops_at_one a e c.args.inlet.now c.bring_one.new.inlet c.args.taker.now.taken c.take.new.taker.taken c.in-Some.frame c.in-Some.ensures.took.0 c.in_err-bring_one-in-Some.ensures.left c.in_err-bring_one-in-Some.ensures.short in
    search rules
