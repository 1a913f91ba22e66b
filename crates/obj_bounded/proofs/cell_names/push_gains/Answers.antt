use Rattle.std.proofs.Common.{arith}
use Rattle.obj_bounded.specs.CellNames.{cell_name}
use Rattle.obj_bounded.proofs.Pushing.{gains_more}
use Rattle.obj_bounded.proofs.cell_names.push_gains.Goals as goal

pub loop-from-preserved : goal.loop-from-preserved
loop-from-preserved c = gains_more (λ from. cell_name c.args.name.now from c.args.holder) c.loop-from.from c.args.names.now.items c.loop-from.names.items c.push_cell.new.names.items (omega arith) c.loop-from.invariant c.in_ok-push_cell.ensures
