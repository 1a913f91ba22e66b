use Rattle.dc_talk.specs.Acting.{acting}
use Rattle.client_stub.proofs.Growth.{on_err, cut_done}
use Rattle.client_stub.proofs.Operating.{relays_all}
use Rattle.client_stub.proofs.operator.order_relay.Goals as goal

pub returns-in_err-tell-clause-short : goal.returns-in_err-tell-clause-short
returns-in_err-tell-clause-short g c =
    let a = acting (g.D.Door.shown c.args.door.now) c.args.log.now in
    let b = acting (g.D.Door.shown c.relay_all.new.door) c.relay_all.new.log in
    on_err _ (cut_done a b c.tell.new.log _ c.in_ok-last.ensures.relays.adds.leaves c.in_err-tell.ensures.err)

pub returns-clause-operates : goal.returns-clause-operates
returns-clause-operates g c = λ n.
    let a = acting (g.D.Door.shown c.args.door.now) c.args.log.now in
    let b = acting (g.D.Door.shown c.relay_all.new.door) c.relay_all.new.log in
    relays_all n c.args.from c.args.origin c.args.to a b c.tell.new.log c.in_ok-last.last c.relay_line.result c.in_ok-last.ensures.relays c.relay_line.ensures c.in_ok-tell.ensures.ok
