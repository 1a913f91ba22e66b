use Rattle.std.proofs.lemmas.List.{nil_from_length}
use Rattle.std.proofs.Common.{rules, arith, ◌≡◌, [], refl, ◌∙◌}
use Rattle.dc_talk.specs.Acting.{acting, IsCutShort}
use Rattle.dc_worker.proofs.Work.{cut_then}
use Rattle.dc_worker.proofs.Delivering.{delivers_on_none, delivers_on_more, delivers_on_last, delivers_on_all}
use Rattle.dc_worker.proofs.deliveries.deliver_all.Goals as goal

pub items-init : goal.items-init
items-init g c = record { place = refl; delivers = delivers_on_none c.args.to c.args.items _ c.args.last _ (c.into_iter-item-iterator.ensures.into_iter_gives.0 ∙ c.into_vec-item-items.ensures) }

pub returns-in_err-ended-clause-short : goal.returns-in_err-ended-clause-short
returns-in_err-ended-clause-short g c =
    let a = acting (g.D.Door.shown c.args.door.now) c.args.log.now in
    let b = acting (g.D.Door.shown c.items.door) c.items.log in
    let e = acting (g.D.Door.shown c.deliver_next.new.door) c.deliver_next.new.log in
    let cut : IsCutShort a e = cut_then a b e _ c.items.invariant.delivers.adds c.in_err-ended.ensures.short in
    search rules

pub items-preserved : goal.items-preserved
items-preserved g c = record {
  place = c.in_ok-ended.ensures.place ∙ c.items.invariant.place;
  delivers =
      let a = acting (g.D.Door.shown c.args.door.now) c.args.log.now in
      let b = acting (g.D.Door.shown c.items.door) c.items.log in
      let e = acting (g.D.Door.shown c.deliver_next.new.door) c.deliver_next.new.log in
      delivers_on_more c.args.to c.args.items c.items.item-iterator.rest.items c.next.new.self.rest.items c.args.last c.items.end a b e c.in-Some.item (c.in_ok-ended.ended, c.in_ok-ended.there) c.in-Some.ensures.steps.0 c.items.invariant.delivers c.in_ok-ended.ensures.delivers c.if-not-there.false;
}

pub returns-then-not-there-clause-delivers : goal.returns-then-not-there-clause-delivers
returns-then-not-there-clause-delivers g c =
    let a = acting (g.D.Door.shown c.args.door.now) c.args.log.now in
    let b = acting (g.D.Door.shown c.items.door) c.items.log in
    let e = acting (g.D.Door.shown c.deliver_next.new.door) c.deliver_next.new.log in
    delivers_on_last c.args.to c.args.items c.items.item-iterator.rest.items c.next.new.self.rest.items c.args.last c.items.end a b e c.in-Some.item (c.in_ok-ended.ended, c.in_ok-ended.there) c.in-Some.ensures.steps.0 c.items.invariant.delivers c.in_ok-ended.ensures.delivers c.if-not-there.true

pub returns-clause-delivers : goal.returns-clause-delivers
returns-clause-delivers g c =
    let a = acting (g.D.Door.shown c.args.door.now) c.args.log.now in
    let b = acting (g.D.Door.shown c.items.door) c.items.log in
    let none : c.items.item-iterator.rest.items ≡ [] = nil_from_length c.items.item-iterator.rest.items (omega (arith, c.items.item-iterator.rest.ok, c.in-None.ensures.steps.0)) in
    delivers_on_all c.args.to c.args.items c.items.item-iterator.rest.items c.args.last c.items.end a b none c.items.invariant.delivers
