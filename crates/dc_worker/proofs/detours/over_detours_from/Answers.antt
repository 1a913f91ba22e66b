use Rattle.std.proofs.Common.{rules, refl, ◌∙◌}
use Rattle.dc_talk.specs.Acting.{acting, IsCutShort}
use Rattle.dc_worker.specs.Rounds.{DoesRelay}
use Rattle.dc_worker.proofs.Work.{cut_then}
use Rattle.dc_worker.proofs.Turns.{turns_none, origin_next, origin_self}
use Rattle.dc_worker.proofs.detours.over_detours_from.Goals as goal

pub origins-init : goal.origins-init
origins-init g c = record { place = refl; does = turns_none DoesRelay _ }

pub returns-in_err-over_detours_to-clause-short : goal.returns-in_err-over_detours_to-clause-short
returns-in_err-over_detours_to-clause-short g c =
    let a = acting (g.D.Door.shown c.args.door.now) c.args.log.now in
    let b = acting (g.D.Door.shown c.origins.door) c.origins.log in
    let e = acting (g.D.Door.shown c.over_detours_to.new.door) c.over_detours_to.new.log in
    let cut : IsCutShort a e = cut_then a b e _ c.origins.invariant.does.adds c.in_err-over_detours_to.ensures.short in
    search rules

pub origins-preserved-then-from-origin : goal.origins-preserved-then-from-origin
origins-preserved-then-from-origin g c = record {
  place = c.origins.invariant.place;
  does = origin_self c.args.n c.origins.before c.args.from _ _ _ refl c.if-from-origin.true c.origins.invariant.does;
}

pub origins-preserved : goal.origins-preserved
origins-preserved g c = record {
  place = c.in_ok-over_detours_to.ensures.place ∙ c.origins.invariant.place;
  does =
      let a = acting (g.D.Door.shown c.args.door.now) c.args.log.now in
      let b = acting (g.D.Door.shown c.origins.door) c.origins.log in
      let e = acting (g.D.Door.shown c.over_detours_to.new.door) c.over_detours_to.new.log in
      origin_next c.args.n c.origins.before c.args.from _ a b e refl c.if-from-origin.false c.origins.invariant.does c.in_ok-over_detours_to.ensures.does;
}
