use Rattle.std.proofs.Common.{◌≡◌, rules, refl, ◌∙◌, subst, arith}
use Rattle.dc_talk.specs.Acting.{acting, IsCutShort}
use Rattle.script_core.specs.Carrying.{InTurn}
use Rattle.dc_worker.specs.Work.{CarriesSuch}
use Rattle.dc_worker.specs.Rounds.{DoesRelay, detours_from, detours_of}
use Rattle.dc_worker.proofs.Work.{cut_then}
use Rattle.dc_worker.proofs.Turns.{turns_none, over_more}
use Rattle.dc_worker.proofs.detours.over_all_detours.Goals as goal

pub centres-init : goal.centres-init
centres-init g c = record { place = refl; does = turns_none DoesRelay _ }

pub returns-in_err-over_detours_from-clause-short : goal.returns-in_err-over_detours_from-clause-short
returns-in_err-over_detours_from-clause-short g c =
    let a = acting (g.D.Door.shown c.args.door.now) c.args.log.now in
    let b = acting (g.D.Door.shown c.centres.door) c.centres.log in
    let e = acting (g.D.Door.shown c.over_detours_from.new.door) c.over_detours_from.new.log in
    let cut : IsCutShort a e = cut_then a b e _ c.centres.invariant.does.adds c.in_err-over_detours_from.ensures.short in
    search rules

pub centres-preserved : goal.centres-preserved
centres-preserved g c = record {
  place = c.in_ok-over_detours_from.ensures.place ∙ c.centres.invariant.place;
  does =
      let a = acting (g.D.Door.shown c.args.door.now) c.args.log.now in
      let b = acting (g.D.Door.shown c.centres.door) c.centres.log in
      let e = acting (g.D.Door.shown c.over_detours_from.new.door) c.over_detours_from.new.log in
      over_more DoesRelay (λ from. detours_from c.args.n from c.args.n) c.centres.before _ a b e refl c.centres.invariant.does c.in_ok-over_detours_from.ensures.does;
}

pub returns-clause-does : goal.returns-clause-does
returns-clause-does g c =
    let a = acting (g.D.Door.shown c.args.door.now) c.args.log.now in
    let e = acting (g.D.Door.shown c.centres.door) c.centres.log in
    let all : c.centres.before ≡ c.args.n = omega arith in
    subst (λ k. CarriesSuch (InTurn DoesRelay (detours_of c.args.n k)) a e) all c.centres.invariant.does
