use Rattle.std.proofs.Common.{rules}
use Rattle.dc_talk.specs.Acting.{acting, IsCutShort}
use Rattle.script_core.specs.Carrying.{route}
use Rattle.dc_worker.specs.Brings.{ReceivesPart, incoming}
use Rattle.dc_worker.proofs.Work.{cut_then}
use Rattle.dc_worker.proofs.Bringing.{stops_at_held}
use Rattle.dc_links.proofs.OneLink.{closes_rest}
use Rattle.dc_links.proofs.takes.drain_round.Goals as goal

pub returns-in_err-bring_held-clause-short : goal.returns-in_err-bring_held-clause-short
returns-in_err-bring_held-clause-short g c =
    let a = acting (g.D.Door.shown c.args.door.now) c.args.log.now in
    let b = acting (g.D.Door.shown c.take_all.new.door) c.take_all.new.log in
    let e = acting (g.D.Door.shown c.bring_held.new.door) c.bring_held.new.log in
    let cut : IsCutShort a e = cut_then a b e _ c.in_ok-number.ensures.receives.brings.adds c.in_err-bring_held.ensures.short in
    search rules

pub returns-clause-closes : goal.returns-clause-closes
returns-clause-closes g c =
    let a = acting (g.D.Door.shown c.args.door.now) c.args.log.now in
    let b = acting (g.D.Door.shown c.take_all.new.door) c.take_all.new.log in
    let e = acting (g.D.Door.shown c.bring_held.new.door) c.bring_held.new.log in
    closes_rest (route c.args.from c.args.at) c.in_ok-number.number (incoming a c.args.inlet.now c.args.taker.now.taken) b e c.take_all.new.inlet c.bring_held.new.inlet c.take_all.new.taker.taken c.in_ok-number.ensures.receives c.in_ok-bring_held.ensures.brings c.bring_held.ensures.inlet

pub returns-in_err-bring_held-clause-part : goal.returns-in_err-bring_held-clause-part
returns-in_err-bring_held-clause-part g c =
    let b = acting (g.D.Door.shown c.take_all.new.door) c.take_all.new.log in
    let e = acting (g.D.Door.shown c.bring_held.new.door) c.bring_held.new.log in
    let a = acting (g.D.Door.shown c.args.door.now) c.args.log.now in
    let part : ReceivesPart (route c.args.from c.args.at) (incoming a c.args.inlet.now c.args.taker.now.taken) (incoming e c.bring_held.new.inlet c.take_all.new.taker.taken) = record {
      number = c.in_ok-number.number;
      between = incoming b c.take_all.new.inlet c.take_all.new.taker.taken;
      receives = c.in_ok-number.ensures.receives;
      stops = stops_at_held b e c.take_all.new.inlet c.bring_held.new.inlet c.take_all.new.taker.taken c.bring_held.ensures.inlet c.in_err-bring_held.ensures.short;
    } in
    search rules
