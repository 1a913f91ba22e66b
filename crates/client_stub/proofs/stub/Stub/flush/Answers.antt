use Rattle.std.proofs.Common.{refl, ◌∙◌, subst}
use Rattle.dc_talk.specs.Acting.{acting}
use Rattle.client_stub.specs.Playing.{beside}
use Rattle.client_stub.specs.Errands.{FlushesOn}
use Rattle.client_stub.proofs.Growth.{on_err, cut_grown}
use Rattle.client_stub.proofs.Flushes.{flush_begins, flush_last, flush_more}
use Rattle.client_stub.proofs.stub.Stub.flush.Goals as goal

pub pushes-init : goal.pushes-init
pushes-init g c = record { place = refl; flushed = flush_begins (beside c.args.self.now (g.D.Door.shown c.args.door.now) c.args.log.now); linked = c.requires }

pub pushes-preserved : goal.pushes-preserved
pushes-preserved g c =
    let p = beside c.args.self.now (g.D.Door.shown c.args.door.now) c.args.log.now in
    let q = beside c.pushes.self (g.D.Door.shown c.pushes.door) c.pushes.log in
    let r = beside c.push_on.new.self (g.D.Door.shown c.push_on.new.door) c.push_on.new.log in
    record {
      place = c.in_ok-push_on.ensures.place ∙ c.pushes.invariant.place;
      flushed = flush_more p q r c.pushes.invariant.flushed (subst (FlushesOn q r) c.if-branch.true c.in_ok-push_on.ensures.goes);
      linked = c.in_ok-push_on.ensures.linked;
    }

pub returns-in_err-push_on-clause-short : goal.returns-in_err-push_on-clause-short
returns-in_err-push_on-clause-short g c =
    let p = beside c.args.self.now (g.D.Door.shown c.args.door.now) c.args.log.now in
    let q = beside c.pushes.self (g.D.Door.shown c.pushes.door) c.pushes.log in
    let b = acting (g.D.Door.shown c.push_on.new.door) c.push_on.new.log in
    on_err _ (cut_grown p q b c.pushes.invariant.flushed.deeds c.pushes.invariant.flushed.grows c.in_err-push_on.ensures.short)

pub returns-clause-takes : goal.returns-clause-takes
returns-clause-takes g c =
    let p = beside c.args.self.now (g.D.Door.shown c.args.door.now) c.args.log.now in
    let q = beside c.pushes.self (g.D.Door.shown c.pushes.door) c.pushes.log in
    let r = beside c.push_on.new.self (g.D.Door.shown c.push_on.new.door) c.push_on.new.log in
    flush_last p q r c.pushes.invariant.flushed (subst (FlushesOn q r) c.if-branch.false c.in_ok-push_on.ensures.goes)
