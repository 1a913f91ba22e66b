use Rattle.std.proofs.Common.{◌∙◌, arith}
use Rattle.ids_core.proofs.Names.{ended}
use Rattle.ids_core.proofs.name.order.Goals as goal

pub returns : goal.returns
returns c =
    let inv = c.loop-i.invariant in
    let end = inv.0 in
    let below = inv.1 in
    let above = c.loop-i-test.false in
    c.cmp-2.ensures ∙ ended c.args.a.now c.args.b.now c.loop-i.i (omega arith) ∙ inv.2
