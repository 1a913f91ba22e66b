use Rattle.std.proofs.Common.{◌≡◌, ◌++◌, ◌-◌, map}
use Rattle.std.specs.List.{range_with_len}
use Rattle.obj_bounded.specs.CellNames.{cell_name}
use Rattle.obj_bounded.proofs.cell_names.push_gains.Given as goal

abbrev pub invariant-loop-from : goal.invariant-loop-from
invariant-loop-from l = l.names.items ≡ l.fn.names.items ++ map (λ from. cell_name l.name from l.holder) (range_with_len 1 (l.from - 1))
