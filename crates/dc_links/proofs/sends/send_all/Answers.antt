use Rattle.std.proofs.Common.{◌<◌, arith, rules, refl, ◌∙◌}
use Rattle.dc_talk.specs.Acting.{acting, IsCutShort}
use Rattle.dc_worker.proofs.Work.{cut_then}
use Rattle.dc_links.specs.Rounds.{SendsPart}
use Rattle.dc_links.proofs.Sending.{sent_none, sent_self, sent_next}
use Rattle.dc_links.proofs.sends.send_all.Goals as goal

pub others-init : goal.others-init
others-init g c = record { place = refl; ends = c.requires.ends; sends = sent_none c.args.from _ _ }

pub returns-in_err-send_over-clause-short : goal.returns-in_err-send_over-clause-short
returns-in_err-send_over-clause-short g c =
    let a = acting (g.D.Door.shown c.args.door.now) c.args.log.now in
    let b = acting (g.D.Door.shown c.others.door) c.others.log in
    let e = acting (g.D.Door.shown c.send_over.new.door) c.send_over.new.log in
    let cut : IsCutShort a e = cut_then a b e _ c.others.invariant.sends.adds c.in_err-send_over.ensures.short in
    search rules

pub returns-in_err-send_over-clause-part : goal.returns-in_err-send_over-clause-part
returns-in_err-send_over-clause-part g c =
    let few : c.others.before < c.args.n = omega arith in
    let a = acting (g.D.Door.shown c.args.door.now) c.args.log.now in
    let b = acting (g.D.Door.shown c.others.door) c.others.log in
    let e = acting (g.D.Door.shown c.send_over.new.door) c.send_over.new.log in
    let part : SendsPart c.args.n c.args.from c.args.givers.now.items c.send_over.new.givers.items a e = record {
      before = c.others.before;
      few = few;
      other = c.if-to-from.false;
      mid = c.others.givers.items;
      between = b;
      sends = c.others.invariant.sends;
      puts = c.in_err-send_over.ensures.stops;
      short = c.in_err-send_over.ensures.short;
    } in
    search rules

pub others-preserved-then-to-from : goal.others-preserved-then-to-from
others-preserved-then-to-from g c = record {
  place = c.others.invariant.place;
  ends = c.others.invariant.ends;
  sends = sent_self c.others.before c.args.from _ _ _ _ _ refl c.if-to-from.true c.others.invariant.sends;
}

pub others-preserved : goal.others-preserved
others-preserved g c = record {
  place = c.in_ok-send_over.ensures.place ∙ c.others.invariant.place;
  ends = c.in_ok-send_over.ensures.ends;
  sends =
      let a = acting (g.D.Door.shown c.args.door.now) c.args.log.now in
      let b = acting (g.D.Door.shown c.others.door) c.others.log in
      let e = acting (g.D.Door.shown c.send_over.new.door) c.send_over.new.log in
      sent_next c.others.before c.args.from _ _ _ _ a b e refl c.if-to-from.false c.others.invariant.sends c.in_ok-send_over.ensures.sends;
}
