use Rattle.std.proofs.Common.{◌-◌, Some, sym, ◌∙◌}
use Rattle.dc_talk.specs.declared.ask.Ask.TheVariants.{Send}
use Rattle.dc_talk.specs.declared.line.ShipEnd.TheVariants.{Absent}
use Rattle.dc_talk.specs.Acting.{acting, IsCutShort}
use Rattle.script_core.specs.Carrying.{route, Delivers, Sends}
use Rattle.dc_worker.specs.Work.{AddsSuch, CarriesSuch}
use Rattle.dc_worker.proofs.Work.{cut_then, ok_turn, err_turn}
use Rattle.dc_worker.proofs.Sending.{sends_items, sends_ended}
use Rattle.dc_worker.proofs.ships.ship_one.Goals as goal

pub returns-in-Items-clause-ships : goal.returns-in-Items-clause-ships
returns-in-Items-clause-ships g c =
    let a = acting (g.D.Door.shown c.args.door.now) c.args.log.now in
    let b = acting (g.D.Door.shown c.ask_unheard.new.door) c.ask_unheard.new.log in
    let e = acting (g.D.Door.shown c.deliver_all.new.door) c.deliver_all.new.log in
    let r = route c.args.from c.args.to in
    ok_turn c.deliver_all.result
    (λ end. AddsSuch (λ deeds. Delivers c.args.to c.in-Items.items (Some (Absent c.args.seq)) deeds end) b e)
    (λ end. CarriesSuch (λ deeds. Sends r (Some (Absent c.args.seq)) (Send (c.args.seq - 1) 1) deeds end) a e)
    (λ end delivered. sends_items a b e r (Some (Absent c.args.seq)) (Send (c.args.seq - 1) 1) c.in_ok-say.say c.in-Items.items end (λ say. tt) c.in_ok-say.ensures.asks c.in-Items.ensures delivered)
    c.deliver_all.ensures.delivers

pub returns-in-Items-clause-short : goal.returns-in-Items-clause-short
returns-in-Items-clause-short g c =
    let a = acting (g.D.Door.shown c.args.door.now) c.args.log.now in
    let b = acting (g.D.Door.shown c.ask_unheard.new.door) c.ask_unheard.new.log in
    let e = acting (g.D.Door.shown c.deliver_all.new.door) c.deliver_all.new.log in
    err_turn c.deliver_all.result (IsCutShort b e) (IsCutShort a e) (λ cut. cut_then a b e _ c.in_ok-say.ensures.asks cut) c.deliver_all.ensures.short

pub returns-in-Ended-clause-ships : goal.returns-in-Ended-clause-ships
returns-in-Ended-clause-ships g c =
    let a = acting (g.D.Door.shown c.args.door.now) c.args.log.now in
    let b = acting (g.D.Door.shown c.ask_unheard.new.door) c.ask_unheard.new.log in
    sends_ended a b (route c.args.from c.args.to) (Some (Absent c.args.seq)) (Send (c.args.seq - 1) 1) c.in_ok-say.say c.in-Ended.end (λ say. tt) c.in_ok-say.ensures.asks (sym c.in-Ended.is ∙ c.handed_of.ensures)
