use Rattle.std.proofs.Common.{◌<◌, arith, rules, refl, ◌∙◌}
use Rattle.dc_talk.specs.Acting.{acting, IsCutShort}
use Rattle.script_core.specs.Links.{arrivals, inlet_closed}
use Rattle.dc_worker.proofs.Work.{cut_then}
use Rattle.dc_links.specs.Links.{rows_of}
use Rattle.dc_links.specs.Rounds.{inward, TakesPart}
use Rattle.dc_links.proofs.Taking.{drained_none, drained_self, drained_next}
use Rattle.dc_links.proofs.drains.drain_all.Goals as goal

pub others-init : goal.others-init
others-init g c = record { place = refl; ends = c.requires.ends; number = c.requires.inlets; drains = drained_none _ c.args.to _ _ }

pub returns-in_err-drain_over-clause-short : goal.returns-in_err-drain_over-clause-short
returns-in_err-drain_over-clause-short g c =
    let a = acting (g.D.Door.shown c.args.door.now) c.args.log.now in
    let b = acting (g.D.Door.shown c.others.door) c.others.log in
    let e = acting (g.D.Door.shown c.drain_over.new.door) c.drain_over.new.log in
    let cut : IsCutShort a e = cut_then a b e _ c.others.invariant.drains.takes.adds c.in_err-drain_over.ensures.short in
    search rules

pub returns-in_err-drain_over-clause-part : goal.returns-in_err-drain_over-clause-part
returns-in_err-drain_over-clause-part g c =
    let few : c.others.before < c.args.n = omega arith in
    let old = inward c.args.takers.now.items c.args.inlets.now.items in
    let mid = inward c.others.takers.items c.others.inlets.items in
    let new = inward c.drain_over.new.takers.items c.drain_over.new.inlets.items in
    let a = acting (g.D.Door.shown c.args.door.now) c.args.log.now in
    let b = acting (g.D.Door.shown c.others.door) c.others.log in
    let e = acting (g.D.Door.shown c.drain_over.new.door) c.drain_over.new.log in
    let part : TakesPart arrivals inlet_closed c.args.n c.args.to old new a e = record { before = c.others.before; few = few; other = c.if-from-to.false; mid = mid; between = b; takes = c.others.invariant.drains.takes; stops = c.in_err-drain_over.ensures.stops } in
    search rules

pub others-preserved-then-from-to : goal.others-preserved-then-from-to
others-preserved-then-from-to g c = record {
  place = c.others.invariant.place;
  ends = c.others.invariant.ends;
  number = c.others.invariant.number;
  drains = drained_self _ c.others.before c.args.to _ _ _ _ _ refl c.if-from-to.true c.others.invariant.drains;
}

pub others-preserved : goal.others-preserved
others-preserved g c = record {
  place = c.in_ok-drain_over.ensures.place ∙ c.others.invariant.place;
  ends = c.in_ok-drain_over.ensures.ends;
  number = c.in_ok-drain_over.ensures.inlets ∙ c.others.invariant.number;
  drains =
      let a = acting (g.D.Door.shown c.args.door.now) c.args.log.now in
      let b = acting (g.D.Door.shown c.others.door) c.others.log in
      let e = acting (g.D.Door.shown c.drain_over.new.door) c.drain_over.new.log in
      drained_next (rows_of c.args.givers.now) c.others.before c.args.to _ (inward c.args.takers.now.items c.args.inlets.now.items) (inward c.others.takers.items c.others.inlets.items) (inward c.drain_over.new.takers.items c.drain_over.new.inlets.items) a b e refl c.if-from-to.false c.others.invariant.drains c.in_ok-drain_over.ensures.drains;
}
