use Rattle.std.proofs.Common.{arith}
use Rattle.op_log.proofs.Found.{number_reached, reached_number}
use Rattle.op_log.proofs.within.numbers_within.Goals as goal

pub returns-clause-there : goal.returns-clause-there
returns-clause-there c n is =
    let r = c.loop-centre.invariant.there n is in
    let before = r.1 in
    let width = c.width-centre-end.ensures.width in
    let last = c.loop-centre.auto.centre-end in
    number_reached c.args.base.now c.args.places.now.keys n r.0 (omega (arith, before, width, last)) r.2

pub returns-clause-all : goal.returns-clause-all
returns-clause-all c n r =
    let small = r.small in
    let width = c.width-centre-end.ensures.width in
    let past = c.loop-centre-test.false in
    c.loop-centre.invariant.all n r.centre (omega (arith, small, width, past)) (reached_number c.args.base.now c.args.places.now.keys n r)
