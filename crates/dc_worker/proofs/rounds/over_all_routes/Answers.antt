use Rattle.std.proofs.Common.{rules, refl, ◌∙◌}
use Rattle.dc_talk.specs.Acting.{acting, IsCutShort}
use Rattle.dc_worker.specs.Rounds.{Does, routes_from}
use Rattle.dc_worker.proofs.Work.{cut_then}
use Rattle.dc_worker.proofs.Turns.{turns_none, over_more}
use Rattle.dc_worker.proofs.rounds.over_all_routes.Goals as goal

pub centres-init : goal.centres-init
centres-init g c = record { place = refl; does = turns_none (Does c.args.round) _ }

pub returns-in_err-over_routes_from-clause-short : goal.returns-in_err-over_routes_from-clause-short
returns-in_err-over_routes_from-clause-short g c =
    let a = acting (g.D.Door.shown c.args.door.now) c.args.log.now in
    let b = acting (g.D.Door.shown c.centres.door) c.centres.log in
    let e = acting (g.D.Door.shown c.over_routes_from.new.door) c.over_routes_from.new.log in
    let cut : IsCutShort a e = cut_then a b e _ c.centres.invariant.does.adds c.in_err-over_routes_from.ensures.short in
    search rules

pub centres-preserved : goal.centres-preserved
centres-preserved g c = record {
  place = c.in_ok-over_routes_from.ensures.place ∙ c.centres.invariant.place;
  does =
      let a = acting (g.D.Door.shown c.args.door.now) c.args.log.now in
      let b = acting (g.D.Door.shown c.centres.door) c.centres.log in
      let e = acting (g.D.Door.shown c.over_routes_from.new.door) c.over_routes_from.new.log in
      over_more (Does c.args.round) (routes_from c.args.n) c.centres.before _ a b e refl c.centres.invariant.does c.in_ok-over_routes_from.ensures.does;
}
