use Rattle.std.proofs.Common.{rules, refl, ◌∙◌}
use Rattle.dc_talk.specs.Acting.{acting, IsCutShort}
use Rattle.script_core.specs.Carrying.{route}
use Rattle.dc_worker.specs.Brings.{ReceivesPart, incoming}
use Rattle.dc_worker.proofs.Work.{cut_then}
use Rattle.dc_worker.proofs.Bringing.{receives_none}
use Rattle.dc_links.proofs.OneLink.{receives_found, receives_missed}
use Rattle.dc_links.proofs.takes.take_round.Goals as goal

pub items-init : goal.items-init
items-init g c = record { place = refl; link = c.requires.link; receives = receives_none (route c.args.from c.args.at) _ c.args.inlet.now c.args.taker.now.taken c.args.taker.now.taken refl; misses = refl }

pub returns-in_err-take_one-clause-short : goal.returns-in_err-take_one-clause-short
returns-in_err-take_one-clause-short g c =
    let a = acting (g.D.Door.shown c.args.door.now) c.args.log.now in
    let b = acting (g.D.Door.shown c.items.door) c.items.log in
    let e = acting (g.D.Door.shown c.take_one.new.door) c.take_one.new.log in
    let cut : IsCutShort a e = cut_then a b e _ c.items.invariant.receives.brings.adds c.in_err-take_one.ensures.short in
    search rules

pub returns-then-not-branch-clause-receives : goal.returns-then-not-branch-clause-receives
returns-then-not-branch-clause-receives g c =
    let a = incoming (acting (g.D.Door.shown c.args.door.now) c.args.log.now) c.args.inlet.now c.args.taker.now.taken in
    let b = incoming (acting (g.D.Door.shown c.items.door) c.items.log) c.items.inlet c.items.taker.taken in
    let e = incoming (acting (g.D.Door.shown c.take_one.new.door) c.take_one.new.log) c.take_one.new.inlet c.take_one.new.taker.taken in
    receives_missed (route c.args.from c.args.at) c.items.number c.in_ok-take_one.field-0 a b e c.if-not-branch.true c.items.invariant.receives c.in_ok-take_one.ensures.receives

pub returns-in_err-take_one-clause-part : goal.returns-in_err-take_one-clause-part
returns-in_err-take_one-clause-part g c =
    let a = incoming (acting (g.D.Door.shown c.args.door.now) c.args.log.now) c.args.inlet.now c.args.taker.now.taken in
    let b = incoming (acting (g.D.Door.shown c.items.door) c.items.log) c.items.inlet c.items.taker.taken in
    let e = incoming (acting (g.D.Door.shown c.take_one.new.door) c.take_one.new.log) c.take_one.new.inlet c.take_one.new.taker.taken in
    let part : ReceivesPart (route c.args.from c.args.at) a e = record { number = c.items.number; between = b; receives = c.items.invariant.receives; stops = c.in_err-take_one.ensures.stops } in
    search rules

pub items-preserved : goal.items-preserved
items-preserved g c = record {
  place = c.in_ok-take_one.ensures.place ∙ c.items.invariant.place;
  link = c.in_ok-take_one.ensures.link;
  receives =
      let a = incoming (acting (g.D.Door.shown c.args.door.now) c.args.log.now) c.args.inlet.now c.args.taker.now.taken in
      let b = incoming (acting (g.D.Door.shown c.items.door) c.items.log) c.items.inlet c.items.taker.taken in
      let e = incoming (acting (g.D.Door.shown c.take_one.new.door) c.take_one.new.log) c.take_one.new.inlet c.take_one.new.taker.taken in
      receives_found (route c.args.from c.args.at) c.items.number c.in_ok-take_one.field-0 a b e c.if-not-branch.false c.items.invariant.receives c.in_ok-take_one.ensures.receives;
  misses = c.in_ok-take_one.ensures.found c.if-not-branch.false ∙ c.items.invariant.misses;
}
