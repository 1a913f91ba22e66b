use Rattle.std.proofs.Common.{inl, inr, rules, refl, ◌∙◌}
use Rattle.dc_talk.specs.Acting.{acting, IsCutShort}
use Rattle.dc_worker.specs.Rounds.{DoesRelay}
use Rattle.dc_worker.proofs.Work.{cut_then}
use Rattle.dc_worker.proofs.Turns.{turns_none, relay_next, relay_self}
use Rattle.dc_worker.proofs.detours.over_detours_to.Goals as goal

pub centres-init : goal.centres-init
centres-init g c = record { place = refl; does = turns_none DoesRelay _ }

pub returns-in_err-relay_all-clause-short : goal.returns-in_err-relay_all-clause-short
returns-in_err-relay_all-clause-short g c =
    let a = acting (g.D.Door.shown c.args.door.now) c.args.log.now in
    let b = acting (g.D.Door.shown c.centres.door) c.centres.log in
    let e = acting (g.D.Door.shown c.relay_all.new.door) c.relay_all.new.log in
    let cut : IsCutShort a e = cut_then a b e _ c.centres.invariant.does.adds c.in_err-relay_all.ensures.short in
    search rules

pub centres-preserved-then-from-to : goal.centres-preserved-then-from-to
centres-preserved-then-from-to g c = record {
  place = c.centres.invariant.place;
  does = relay_self c.centres.before c.args.from c.args.origin _ _ _ refl (inl c.if-from-to.true) c.centres.invariant.does;
}

pub centres-preserved-then-origin-to : goal.centres-preserved-then-origin-to
centres-preserved-then-origin-to g c = record {
  place = c.centres.invariant.place;
  does = relay_self c.centres.before c.args.from c.args.origin _ _ _ refl (inr c.if-origin-to.true) c.centres.invariant.does;
}

pub centres-preserved : goal.centres-preserved
centres-preserved g c = record {
  place = c.in_ok-relay_all.ensures.place ∙ c.centres.invariant.place;
  does =
      let a = acting (g.D.Door.shown c.args.door.now) c.args.log.now in
      let b = acting (g.D.Door.shown c.centres.door) c.centres.log in
      let e = acting (g.D.Door.shown c.relay_all.new.door) c.relay_all.new.log in
      relay_next c.centres.before c.args.from c.args.origin _ _ a b e refl c.if-from-to.false c.if-origin-to.false c.centres.invariant.does c.in_ok-relay_all.ensures.relays;
}
