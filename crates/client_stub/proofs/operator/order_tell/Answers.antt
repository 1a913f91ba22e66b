use Rattle.dc_talk.specs.Acting.{acting}
use Rattle.client_stub.proofs.Growth.{on_err, cut_done}
use Rattle.client_stub.proofs.Operating.{tells_one}
use Rattle.client_stub.proofs.operator.order_tell.Goals as goal

pub returns-in_err-tell-clause-short : goal.returns-in_err-tell-clause-short
returns-in_err-tell-clause-short g c =
    let a = acting (g.D.Door.shown c.args.door.now) c.args.log.now in
    let b = acting (g.D.Door.shown c.tell.new.door) c.tell.new.log in
    on_err _ (cut_done a b c.tell-2.new.log _ c.in_ok-line.ensures.tells.adds.leaves c.in_err-tell.ensures.err)

pub returns-clause-operates : goal.returns-clause-operates
returns-clause-operates g c = λ n.
    let a = acting (g.D.Door.shown c.args.door.now) c.args.log.now in
    let b = acting (g.D.Door.shown c.tell.new.door) c.tell.new.log in
    tells_one n c.args.from c.args.to a b c.tell-2.new.log c.in_ok-line.line c.in_ok-line.ensures.tells c.in_ok-tell.ensures.ok
