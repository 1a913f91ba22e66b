use Rattle.std.proofs.Common.{rules, refl, ◌∙◌}
use Rattle.dc_talk.specs.Acting.{acting, IsCutShort}
use Rattle.dc_worker.proofs.Work.{cut_then}
use Rattle.dc_mail.proofs.Rounds.{reported_none, reported_self, reported_next}
use Rattle.dc_mail.proofs.reports.report_all.Goals as goal

pub others-init : goal.others-init
others-init g c = record { place = refl; reports = reported_none c.args.from _ }

pub returns-in_err-report_round-clause-short : goal.returns-in_err-report_round-clause-short
returns-in_err-report_round-clause-short g c =
    let a = acting (g.D.Door.shown c.args.door.now) c.args.log.now in
    let b = acting (g.D.Door.shown c.others.door) c.others.log in
    let e = acting (g.D.Door.shown c.report_round.new.door) c.report_round.new.log in
    let cut : IsCutShort a e = cut_then a b e _ c.others.invariant.reports.adds c.in_err-report_round.ensures.short in
    search rules

pub others-preserved-then-to-from : goal.others-preserved-then-to-from
others-preserved-then-to-from g c = record {
  place = c.others.invariant.place;
  reports = reported_self c.others.before c.args.from _ _ _ refl c.if-to-from.true c.others.invariant.reports;
}

pub others-preserved : goal.others-preserved
others-preserved g c = record {
  place = c.in_ok-report_round.ensures.place ∙ c.others.invariant.place;
  reports =
      let a = acting (g.D.Door.shown c.args.door.now) c.args.log.now in
      let b = acting (g.D.Door.shown c.others.door) c.others.log in
      let e = acting (g.D.Door.shown c.report_round.new.door) c.report_round.new.log in
      reported_next c.others.before c.args.from _ a b e refl c.if-to-from.false c.others.invariant.reports c.in_ok-report_round.ensures.tells;
}
