use Rattle.std.proofs.Common.{◌<◌, arith, rules, refl, sym, ◌∙◌, subst}
use Rattle.dc_talk.specs.Acting.{acting, IsCutShort}
use Rattle.dc_talk.proofs.Acting.{cut_behind}
use Rattle.dc_worker.proofs.Work.{cut_then}
use Rattle.dc_mail.specs.Rounds.{HasSent, SentPart}
use Rattle.dc_mail.proofs.Rounds.{sent_none, sent_self, sent_next}
use Rattle.dc_mail.proofs.sends.send_all.Goals as goal

pub others-init : goal.others-init
others-init g c = record { place = refl; sends = sent_none c.args.from _ _ }

pub returns-in_err-items-clause-short : goal.returns-in_err-items-clause-short
returns-in_err-items-clause-short g c =
    let a = acting (g.D.Door.shown c.args.door.now) c.args.log.now in
    let b = acting (g.D.Door.shown c.others.door) c.others.log in
    let e = acting (g.D.Door.shown c.mail_for.new.door) c.mail_for.new.log in
    let cut : IsCutShort a e = cut_then a b e _ c.others.invariant.sends.adds c.in_err-items.ensures.short in
    search rules

pub returns-in_err-put-clause-short : goal.returns-in_err-put-clause-short
returns-in_err-put-clause-short g c =
    let a = acting (g.D.Door.shown c.args.door.now) c.args.log.now in
    let b = acting (g.D.Door.shown c.others.door) c.others.log in
    let e = acting (g.D.Door.shown c.mail_for.new.door) c.mail_for.new.log in
    let cut : IsCutShort a e = cut_then a b e _ c.others.invariant.sends.adds (cut_behind b e _ c.in_ok-items.ensures.mails.adds.leaves) in
    search rules

pub returns-in_err-items-clause-part : goal.returns-in_err-items-clause-part
returns-in_err-items-clause-part g c =
    let few : c.others.before < c.args.n = omega arith in
    let a = acting (g.D.Door.shown c.args.door.now) c.args.log.now in
    let b = acting (g.D.Door.shown c.others.door) c.others.log in
    let e = acting (g.D.Door.shown c.mail_for.new.door) c.mail_for.new.log in
    let part : SentPart c.args.n c.args.from c.args.posts.now c.others.posts a e = record { before = c.others.before; few = few; other = c.if-to-from.false; between = b; sent = c.others.invariant.sends; short = c.in_err-items.ensures.short } in
    search rules

pub returns-in_err-put-clause-part : goal.returns-in_err-put-clause-part
returns-in_err-put-clause-part g c =
    let few : c.others.before < c.args.n = omega arith in
    let a = acting (g.D.Door.shown c.args.door.now) c.args.log.now in
    let b = acting (g.D.Door.shown c.others.door) c.others.log in
    let e = acting (g.D.Door.shown c.mail_for.new.door) c.mail_for.new.log in
    let part : SentPart c.args.n c.args.from c.args.posts.now c.put.new.self a e = record {
      before = c.others.before;
      few = few;
      other = c.if-to-from.false;
      between = b;
      sent = subst (λ posts. HasSent c.others.before c.args.from c.args.posts.now posts a b) (sym c.in_err-put.ensures.err) c.others.invariant.sends;
      short = cut_behind b e _ c.in_ok-items.ensures.mails.adds.leaves;
    } in
    search rules

pub others-preserved-then-to-from : goal.others-preserved-then-to-from
others-preserved-then-to-from g c = record {
  place = c.others.invariant.place;
  sends = sent_self c.others.before c.args.from _ _ _ _ _ refl c.if-to-from.true c.others.invariant.sends;
}

pub others-preserved : goal.others-preserved
others-preserved g c = record {
  place = c.in_ok-items.ensures.place ∙ c.others.invariant.place;
  sends =
      let a = acting (g.D.Door.shown c.args.door.now) c.args.log.now in
      let b = acting (g.D.Door.shown c.others.door) c.others.log in
      let e = acting (g.D.Door.shown c.mail_for.new.door) c.mail_for.new.log in
      sent_next c.others.before c.args.from _ _ _ _ a b e _ refl c.if-to-from.false c.others.invariant.sends c.in_ok-items.ensures.mails c.in_ok-put.ensures.ok;
}
