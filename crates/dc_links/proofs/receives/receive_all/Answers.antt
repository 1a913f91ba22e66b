use Rattle.std.proofs.Common.{◌<◌, arith, rules, ◌≡◌, refl, ◌∙◌, subst}
use Rattle.dc_talk.specs.Acting.{acting, IsCutShort}
use Rattle.script_core.specs.Links.{arrived, inlet_after}
use Rattle.dc_worker.proofs.Work.{cut_then}
use Rattle.dc_links.specs.Rounds.{inward, ReceivesOver, TakesPart}
use Rattle.dc_links.proofs.Taking.{received_none, received_self, received_next}
use Rattle.dc_links.proofs.receives.receive_all.Goals as goal

pub others-init : goal.others-init
others-init g c = record { place = refl; ends = c.requires.ends; number = c.requires.inlets; receives = received_none c.args.to _ _ }

pub returns-in_err-receive_over-clause-short : goal.returns-in_err-receive_over-clause-short
returns-in_err-receive_over-clause-short g c =
    let a = acting (g.D.Door.shown c.args.door.now) c.args.log.now in
    let b = acting (g.D.Door.shown c.others.door) c.others.log in
    let e = acting (g.D.Door.shown c.receive_over.new.door) c.receive_over.new.log in
    let cut : IsCutShort a e = cut_then a b e _ c.others.invariant.receives.takes.adds c.in_err-receive_over.ensures.short in
    search rules

pub returns-in_err-receive_over-clause-part : goal.returns-in_err-receive_over-clause-part
returns-in_err-receive_over-clause-part g c =
    let few : c.others.before < c.args.n = omega arith in
    let old = inward c.args.takers.now.items c.args.inlets.now.items in
    let mid = inward c.others.takers.items c.others.inlets.items in
    let new = inward c.receive_over.new.takers.items c.receive_over.new.inlets.items in
    let a = acting (g.D.Door.shown c.args.door.now) c.args.log.now in
    let b = acting (g.D.Door.shown c.others.door) c.others.log in
    let e = acting (g.D.Door.shown c.receive_over.new.door) c.receive_over.new.log in
    let part : TakesPart arrived inlet_after c.args.n c.args.to old new a e = record { before = c.others.before; few = few; other = c.if-from-to.false; mid = mid; between = b; takes = c.others.invariant.receives.takes; stops = c.in_err-receive_over.ensures.stops } in
    search rules

pub others-preserved-then-from-to : goal.others-preserved-then-from-to
others-preserved-then-from-to g c = record {
  place = c.others.invariant.place;
  ends = c.others.invariant.ends;
  number = c.others.invariant.number;
  receives = received_self c.others.before c.args.to _ _ _ _ _ refl c.if-from-to.true c.others.invariant.receives;
}

pub others-preserved : goal.others-preserved
others-preserved g c = record {
  place = c.in_ok-receive_over.ensures.place ∙ c.others.invariant.place;
  ends = c.in_ok-receive_over.ensures.ends;
  number = c.in_ok-receive_over.ensures.inlets ∙ c.others.invariant.number;
  receives =
      let a = acting (g.D.Door.shown c.args.door.now) c.args.log.now in
      let b = acting (g.D.Door.shown c.others.door) c.others.log in
      let e = acting (g.D.Door.shown c.receive_over.new.door) c.receive_over.new.log in
      received_next c.others.before c.args.to _ (inward c.args.takers.now.items c.args.inlets.now.items) (inward c.others.takers.items c.others.inlets.items) (inward c.receive_over.new.takers.items c.receive_over.new.inlets.items) a b e refl c.if-from-to.false c.others.invariant.receives c.in_ok-receive_over.ensures.receives;
}

pub returns-clause-receives : goal.returns-clause-receives
returns-clause-receives g c =
    let a = acting (g.D.Door.shown c.args.door.now) c.args.log.now in
    let b = acting (g.D.Door.shown c.others.door) c.others.log in
    let done : c.others.before ≡ c.args.n = search rules in
    subst (λ k. ReceivesOver k c.args.to (inward c.args.takers.now.items c.args.inlets.now.items) (inward c.others.takers.items c.others.inlets.items) a b) done c.others.invariant.receives
