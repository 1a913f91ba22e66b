use Rattle.std.proofs.Common.{sym, ap, ◌∙◌, arith}
use Rattle.op_log.specs.declared.chains.Cell.{Cell}
use Rattle.op_log.specs.Logs.{is_inside_at}
use Rattle.point_log.proofs.Serving.{inside_one_more}
use Rattle.point_log.proofs.served.first_inside.Goals as goal

pub loop-done-preserved : goal.loop-done-preserved
loop-done-preserved c =
    let small = c.loop-done-test.true in
    record {
      few = omega (arith, small);
      first = inside_one_more c.args.at.now c.args.log.now.items c.args.cells.now c.loop-done.done c.index-cells-done.result small c.index-cells-done.is c.loop-done.invariant.first (ap (λ (cell : Cell). is_inside_at c.args.at.now cell.tx c.args.log.now.items) c.index-cells-done.is ∙ (sym c.inside.ensures ∙ c.if-inside.true));
    }
