use Rattle.std.proofs.Common.{rules, refl, ◌∙◌}
use Rattle.dc_talk.specs.Acting.{acting, IsCutShort}
use Rattle.dc_worker.specs.Rounds.{Does}
use Rattle.dc_worker.proofs.Work.{cut_then}
use Rattle.dc_worker.proofs.Turns.{turns_none, over_next, over_self}
use Rattle.dc_worker.proofs.rounds.over_routes_from.Goals as goal

pub others-init : goal.others-init
others-init g c = record { place = refl; does = turns_none (Does c.args.round) _ }

pub returns-in_err-over_route-clause-short : goal.returns-in_err-over_route-clause-short
returns-in_err-over_route-clause-short g c =
    let a = acting (g.D.Door.shown c.args.door.now) c.args.log.now in
    let b = acting (g.D.Door.shown c.others.door) c.others.log in
    let e = acting (g.D.Door.shown c.over_route.new.door) c.over_route.new.log in
    let cut : IsCutShort a e = cut_then a b e _ c.others.invariant.does.adds c.in_err-over_route.ensures.short in
    search rules

pub others-preserved-then-from-to : goal.others-preserved-then-from-to
others-preserved-then-from-to g c = record {
  place = c.others.invariant.place;
  does = over_self c.args.round c.others.before c.args.from _ _ _ refl c.if-from-to.true c.others.invariant.does;
}

pub others-preserved : goal.others-preserved
others-preserved g c = record {
  place = c.in_ok-over_route.ensures.place ∙ c.others.invariant.place;
  does =
      let a = acting (g.D.Door.shown c.args.door.now) c.args.log.now in
      let b = acting (g.D.Door.shown c.others.door) c.others.log in
      let e = acting (g.D.Door.shown c.over_route.new.door) c.over_route.new.log in
      over_next c.args.round c.others.before c.args.from _ a b e refl c.if-from-to.false c.others.invariant.does c.in_ok-over_route.ensures.does;
}
