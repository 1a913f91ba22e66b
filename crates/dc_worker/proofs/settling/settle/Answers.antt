use Rattle.std.proofs.Common.{rules, refl, ◌∙◌, arith}
use Rattle.dc_talk.specs.Acting.{acting, IsCutShort}
use Rattle.dc_worker.proofs.Work.{cut_then}
use Rattle.dc_worker.proofs.Passing.{settles_on_none, settles_on_more, settles_on_grows, settles_on_last}
use Rattle.dc_worker.proofs.settling.settle.Goals as goal

pub passes-init : goal.passes-init
passes-init g c = record { place = refl; settles = settles_on_none c.args.n _ }

pub returns-in_err-pass-clause-short : goal.returns-in_err-pass-clause-short
returns-in_err-pass-clause-short g c =
    let a = acting (g.D.Door.shown c.args.door.now) c.args.log.now in
    let b = acting (g.D.Door.shown c.passes.door) c.passes.log in
    let e = acting (g.D.Door.shown c.pass.new.door) c.pass.new.log in
    let cut : IsCutShort a e = cut_then a b e _ c.passes.invariant.settles.adds c.in_err-pass.ensures.short in
    search rules

pub overflow_add-passes : goal.overflow_add-passes
overflow_add-passes g c =
    let b = acting (g.D.Door.shown c.passes.door) c.passes.log in
    let e = acting (g.D.Door.shown c.pass.new.door) c.pass.new.log in
    let grown = settles_on_grows c.args.n b e c.in_ok-pass.field-0 c.if-branch.true c.in_ok-pass.ensures.passes in
    omega (arith, grown.more, grown.short, c.passes.invariant.settles.few)

pub passes-smaller : goal.passes-smaller
passes-smaller g c =
    let b = acting (g.D.Door.shown c.passes.door) c.passes.log in
    let e = acting (g.D.Door.shown c.pass.new.door) c.pass.new.log in
    let grown = settles_on_grows c.args.n b e c.in_ok-pass.field-0 c.if-branch.true c.in_ok-pass.ensures.passes in
    omega (arith, grown.more, grown.short)

pub passes-preserved : goal.passes-preserved
passes-preserved g c = record {
  place = c.in_ok-pass.ensures.place ∙ c.passes.invariant.place;
  settles =
      let a = acting (g.D.Door.shown c.args.door.now) c.args.log.now in
      let b = acting (g.D.Door.shown c.passes.door) c.passes.log in
      let e = acting (g.D.Door.shown c.pass.new.door) c.pass.new.log in
      settles_on_more c.args.n c.passes.passes a b e c.in_ok-pass.field-0 c.if-branch.true c.passes.invariant.settles c.in_ok-pass.ensures.passes;
}

pub returns-clause-settles : goal.returns-clause-settles
returns-clause-settles g c =
    let a = acting (g.D.Door.shown c.args.door.now) c.args.log.now in
    let b = acting (g.D.Door.shown c.passes.door) c.passes.log in
    let e = acting (g.D.Door.shown c.pass.new.door) c.pass.new.log in
    settles_on_last c.args.n c.passes.passes a b e c.in_ok-pass.field-0 c.if-branch.false c.passes.invariant.settles c.in_ok-pass.ensures.passes
