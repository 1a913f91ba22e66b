use Rattle.std.proofs.Common.{◌≡◌, ◌++◌, ◌-◌, map}
use Rattle.obj_bounded.specs.CellNames.{cell_name, other_holders}
use Rattle.obj_bounded.proofs.cell_names.push_gifts.Given as goal

abbrev pub invariant-loop-to : goal.invariant-loop-to
invariant-loop-to l = l.names.items ≡ l.fn.names.items ++ map (cell_name l.name l.holder) (other_holders l.holder (l.to - 1))
