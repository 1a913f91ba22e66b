use Rattle.std.proofs.Common.{◌≡◌, ◌-◌}
use Rattle.script_core.specs.Taps.{first_tap}
use Rattle.std.proofs.Common.{map}
use Rattle.std.specs.List.{range_with_len}
use Rattle.run_table.proofs.opening.first_taps.Given as goal

abbrev pub invariant-centres : goal.invariant-centres
invariant-centres l = l.all.items ≡ map (first_tap l.n l.taps) (range_with_len 1 (l.centre - 1))
