use Rattle.std.proofs.Common.{None}
use Rattle.dc_talk.specs.Acting.{acting, IsCutShort}
use Rattle.script_core.specs.Carrying.{route, Delivers, Supplies}
use Rattle.dc_worker.specs.Sends.{need_of}
use Rattle.dc_worker.specs.Work.{AddsSuch, CarriesSuch}
use Rattle.dc_worker.proofs.Work.{cut_then, ok_turn, err_turn}
use Rattle.dc_worker.proofs.Sending.{need_carries, supplies_items, supplies_ended}
use Rattle.dc_worker.proofs.ships.supply.Goals as goal

pub returns-in-Items-clause-supplies : goal.returns-in-Items-clause-supplies
returns-in-Items-clause-supplies g c =
    let a = acting (g.D.Door.shown c.args.door.now) c.args.log.now in
    let b = acting (g.D.Door.shown c.hand_on.new.door) c.hand_on.new.log in
    let e = acting (g.D.Door.shown c.deliver_all.new.door) c.deliver_all.new.log in
    let r = route c.args.from c.args.to in
    let need = need_of c.args.need c.args.from in
    ok_turn c.deliver_all.result
    (λ end. AddsSuch (λ deeds. Delivers c.args.to c.in-Items.items None deeds end) b e)
    (λ end. CarriesSuch (λ deeds. Supplies r need deeds end) a e)
    (λ end delivered. supplies_items a b e r need c.in_ok-items.field-0 c.in-Items.items end (need_carries c.args.need r) c.in_ok-items.ensures.asks c.in-Items.is delivered)
    c.deliver_all.ensures.delivers

pub returns-in-Items-clause-short : goal.returns-in-Items-clause-short
returns-in-Items-clause-short g c =
    let a = acting (g.D.Door.shown c.args.door.now) c.args.log.now in
    let b = acting (g.D.Door.shown c.hand_on.new.door) c.hand_on.new.log in
    let e = acting (g.D.Door.shown c.deliver_all.new.door) c.deliver_all.new.log in
    err_turn c.deliver_all.result (IsCutShort b e) (IsCutShort a e) (λ cut. cut_then a b e _ c.in_ok-items.ensures.asks.adds cut) c.deliver_all.ensures.short

pub returns-in-Ended-clause-supplies : goal.returns-in-Ended-clause-supplies
returns-in-Ended-clause-supplies g c =
    let a = acting (g.D.Door.shown c.args.door.now) c.args.log.now in
    let b = acting (g.D.Door.shown c.hand_on.new.door) c.hand_on.new.log in
    let r = route c.args.from c.args.to in
    let need = need_of c.args.need c.args.from in
    supplies_ended a b r need c.in_ok-items.field-0 c.in-Ended.end (need_carries c.args.need r) c.in_ok-items.ensures.asks c.in-Ended.is
