use Rattle.dc_talk.specs.Acting.{acting}
use Rattle.client_stub.proofs.Growth.{on_err, cut_done}
use Rattle.client_stub.proofs.Operating.{prunes_one}
use Rattle.client_stub.proofs.operator.order_prune.Goals as goal

pub returns-in_err-tell-clause-short : goal.returns-in_err-tell-clause-short
returns-in_err-tell-clause-short g c =
    let a = acting (g.D.Door.shown c.args.door.now) c.args.log.now in
    let b = acting (g.D.Door.shown c.ask_unheard.new.door) c.ask_unheard.new.log in
    on_err _ (cut_done a b c.tell.new.log _ c.in_ok-say.ensures.asks.leaves c.in_err-tell.ensures.err)

pub returns-clause-operates : goal.returns-clause-operates
returns-clause-operates g c = λ n.
    let a = acting (g.D.Door.shown c.args.door.now) c.args.log.now in
    let b = acting (g.D.Door.shown c.ask_unheard.new.door) c.ask_unheard.new.log in
    prunes_one n c.args.centre a b c.tell.new.log c.in_ok-say.say c.base_line.result c.in_ok-say.ensures.asks c.base_line.ensures c.in_ok-tell.ensures.ok
