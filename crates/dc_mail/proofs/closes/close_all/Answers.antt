use Rattle.std.proofs.Common.{◌<◌, arith, rules, refl, ◌∙◌}
use Rattle.dc_talk.specs.Acting.{acting, IsCutShort}
use Rattle.dc_worker.proofs.Work.{cut_then}
use Rattle.script_core.specs.Mail.{due_at_close, post_closed}
use Rattle.dc_mail.specs.Rounds.{ReceivedPart}
use Rattle.dc_mail.proofs.Rounds.{received_none, received_self, received_next}
use Rattle.dc_mail.proofs.closes.close_all.Goals as goal

pub others-init : goal.others-init
others-init g c = record { place = refl; receives = received_none due_at_close post_closed c.args.to _ _ }

pub returns-in_err-bring_all-clause-short : goal.returns-in_err-bring_all-clause-short
returns-in_err-bring_all-clause-short g c =
    let a = acting (g.D.Door.shown c.args.door.now) c.args.log.now in
    let b = acting (g.D.Door.shown c.others.door) c.others.log in
    let e = acting (g.D.Door.shown c.bring_all.new.door) c.bring_all.new.log in
    let cut : IsCutShort a e = cut_then a b e _ c.others.invariant.receives.adds c.in_err-bring_all.ensures.short in
    search rules

pub returns-in_err-bring_all-clause-part : goal.returns-in_err-bring_all-clause-part
returns-in_err-bring_all-clause-part g c =
    let few : c.others.before < c.args.n = omega arith in
    let a = acting (g.D.Door.shown c.args.door.now) c.args.log.now in
    let b = acting (g.D.Door.shown c.others.door) c.others.log in
    let e = acting (g.D.Door.shown c.bring_all.new.door) c.bring_all.new.log in
    let part : ReceivedPart due_at_close post_closed c.args.n c.args.to c.args.posts.now c.bring_all.new.self a e = record {
      before = c.others.before;
      few = few;
      other = c.if-from-to.false;
      mid = c.others.posts;
      between = b;
      received = c.others.invariant.receives;
      takes = c.in_err-bring_all.ensures.part;
    } in
    search rules

pub others-preserved-then-from-to : goal.others-preserved-then-from-to
others-preserved-then-from-to g c = record {
  place = c.others.invariant.place;
  receives = received_self due_at_close post_closed c.others.before c.args.to _ refl _ _ _ _ c.others.invariant.receives c.if-from-to.true;
}

pub others-preserved : goal.others-preserved
others-preserved g c = record {
  place = c.in_ok-bring_all.ensures.place ∙ c.others.invariant.place;
  receives =
      let a = acting (g.D.Door.shown c.args.door.now) c.args.log.now in
      let b = acting (g.D.Door.shown c.others.door) c.others.log in
      let e = acting (g.D.Door.shown c.bring_all.new.door) c.bring_all.new.log in
      received_next due_at_close post_closed c.others.before c.args.to _ refl _ _ a b c.others.invariant.receives e _ c.if-from-to.false (search rules) (search rules) c.in_ok-bring_all.ensures.brings c.in_ok-bring_all.ensures.posts;
}
