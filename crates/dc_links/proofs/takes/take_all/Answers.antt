use Rattle.std.proofs.Common.{rules, refl, ◌∙◌}
use Rattle.dc_talk.specs.Acting.{acting, IsCutShort}
use Rattle.script_core.specs.Carrying.{route}
use Rattle.dc_worker.specs.Brings.{ReceivesPart, incoming}
use Rattle.dc_worker.proofs.Work.{cut_then}
use Rattle.dc_worker.proofs.Bringing.{receives_none, receives_then}
use Rattle.dc_links.proofs.takes.take_all.Goals as goal

pub items-init : goal.items-init
items-init g c = record { place = refl; link = c.requires.link; receives = (0, receives_none (route c.args.from c.args.at) _ c.args.inlet.now c.args.taker.now.taken c.args.taker.now.taken refl) }

pub returns-in_err-take_one-clause-short : goal.returns-in_err-take_one-clause-short
returns-in_err-take_one-clause-short g c =
    let a = acting (g.D.Door.shown c.args.door.now) c.args.log.now in
    let b = acting (g.D.Door.shown c.items.door) c.items.log in
    let e = acting (g.D.Door.shown c.take_one.new.door) c.take_one.new.log in
    let cut : IsCutShort a e = cut_then a b e _ c.items.invariant.receives.1.brings.adds c.in_err-take_one.ensures.short in
    search rules

pub returns-in_err-take_one-clause-part : goal.returns-in_err-take_one-clause-part
returns-in_err-take_one-clause-part g c =
    let a = incoming (acting (g.D.Door.shown c.args.door.now) c.args.log.now) c.args.inlet.now c.args.taker.now.taken in
    let b = incoming (acting (g.D.Door.shown c.items.door) c.items.log) c.items.inlet c.items.taker.taken in
    let e = incoming (acting (g.D.Door.shown c.take_one.new.door) c.take_one.new.log) c.take_one.new.inlet c.take_one.new.taker.taken in
    let part : ReceivesPart (route c.args.from c.args.at) a e = record { number = c.items.invariant.receives.0; between = b; receives = c.items.invariant.receives.1; stops = c.in_err-take_one.ensures.stops } in
    search rules

pub items-preserved : goal.items-preserved
items-preserved g c = record {
  place = c.in_ok-take_one.ensures.place ∙ c.items.invariant.place;
  link = c.in_ok-take_one.ensures.link;
  receives =
      let a = incoming (acting (g.D.Door.shown c.args.door.now) c.args.log.now) c.args.inlet.now c.args.taker.now.taken in
      let b = incoming (acting (g.D.Door.shown c.items.door) c.items.log) c.items.inlet c.items.taker.taken in
      let e = incoming (acting (g.D.Door.shown c.take_one.new.door) c.take_one.new.log) c.take_one.new.inlet c.take_one.new.taker.taken in
      (_, receives_then (route c.args.from c.args.at) c.items.invariant.receives.0 _ a b e c.items.invariant.receives.1 c.in_ok-take_one.ensures.receives);
}
