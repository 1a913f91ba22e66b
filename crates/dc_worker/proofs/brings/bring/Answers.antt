use Rattle.std.proofs.lemmas.List.{nil_from_length}
use Rattle.std.proofs.Common.{rules, arith, ◌≡◌, [], refl, ◌∙◌}
use Rattle.dc_talk.specs.Acting.{acting, IsCutShort}
use Rattle.script_core.specs.Carrying.{route}
use Rattle.dc_worker.specs.Brings.{BringsPart}
use Rattle.dc_worker.proofs.Work.{cut_then}
use Rattle.dc_worker.proofs.Bringing.{brings_on_none, brings_on_more, brings_on_all, after_all, brings_part_next}
use Rattle.dc_worker.proofs.brings.bring.Goals as goal

pub frames-init : goal.frames-init
frames-init g c = record { place = refl; brings = brings_on_none (route c.args.from c.args.at) c.args.inlet.now c.args.frames.items _ _ c.into_iter-frame-iterator.ensures.into_iter_gives.0 }

pub returns-in_err-bring_one-clause-short : goal.returns-in_err-bring_one-clause-short
returns-in_err-bring_one-clause-short g c =
    let a = acting (g.D.Door.shown c.args.door.now) c.args.log.now in
    let b = acting (g.D.Door.shown c.frames.door) c.frames.log in
    let e = acting (g.D.Door.shown c.bring_one.new.door) c.bring_one.new.log in
    let cut : IsCutShort a e = cut_then a b e _ c.frames.invariant.brings.receives.brings.adds c.in_err-bring_one.ensures.short in
    search rules

pub returns-in_err-bring_one-clause-part : goal.returns-in_err-bring_one-clause-part
returns-in_err-bring_one-clause-part g c =
    let a = acting (g.D.Door.shown c.args.door.now) c.args.log.now in
    let b = acting (g.D.Door.shown c.frames.door) c.frames.log in
    let e = acting (g.D.Door.shown c.bring_one.new.door) c.bring_one.new.log in
    let part : BringsPart (route c.args.from c.args.at) c.args.frames.items c.args.inlet.now c.bring_one.new.inlet a e = brings_part_next (route c.args.from c.args.at) c.args.inlet.now c.args.frames.items c.frames.frame-iterator.rest.items c.next.new.self.rest.items c.frames.inlet c.bring_one.new.inlet a b e c.in-Some.frame c.in-Some.ensures.steps.0 c.frames.invariant.brings c.in_err-bring_one.ensures.short c.in_err-bring_one.ensures.left in
    search rules

pub frames-preserved : goal.frames-preserved
frames-preserved g c = record {
  place = c.in_ok-bring_one.ensures.place ∙ c.frames.invariant.place;
  brings =
      let a = acting (g.D.Door.shown c.args.door.now) c.args.log.now in
      let b = acting (g.D.Door.shown c.frames.door) c.frames.log in
      let e = acting (g.D.Door.shown c.bring_one.new.door) c.bring_one.new.log in
      brings_on_more (route c.args.from c.args.at) c.args.inlet.now c.args.frames.items c.frames.frame-iterator.rest.items c.next.new.self.rest.items c.frames.inlet c.bring_one.new.inlet a b e c.in-Some.frame c.in-Some.ensures.steps.0 c.frames.invariant.brings c.in_ok-bring_one.ensures.brings c.in_ok-bring_one.ensures.inlet;
}

pub returns-clause-brings : goal.returns-clause-brings
returns-clause-brings g c =
    let a = acting (g.D.Door.shown c.args.door.now) c.args.log.now in
    let b = acting (g.D.Door.shown c.frames.door) c.frames.log in
    let none : c.frames.frame-iterator.rest.items ≡ [] = nil_from_length c.frames.frame-iterator.rest.items (omega (arith, c.frames.frame-iterator.rest.ok, c.in-None.ensures.steps.0)) in
    brings_on_all (route c.args.from c.args.at) c.args.inlet.now c.args.frames.items c.frames.frame-iterator.rest.items c.frames.inlet a b none c.frames.invariant.brings

pub returns-clause-inlet : goal.returns-clause-inlet
returns-clause-inlet g c =
    let a = acting (g.D.Door.shown c.args.door.now) c.args.log.now in
    let b = acting (g.D.Door.shown c.frames.door) c.frames.log in
    let none : c.frames.frame-iterator.rest.items ≡ [] = nil_from_length c.frames.frame-iterator.rest.items (omega (arith, c.frames.frame-iterator.rest.ok, c.in-None.ensures.steps.0)) in
    after_all (route c.args.from c.args.at) c.args.inlet.now c.args.frames.items c.frames.frame-iterator.rest.items c.frames.inlet a b none c.frames.invariant.brings
