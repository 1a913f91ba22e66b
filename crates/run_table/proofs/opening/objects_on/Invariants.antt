use Rattle.std.proofs.Common.{◌≡◌, take}
use Rattle.script_core.specs.Taps.{objects_on}
use Rattle.run_table.proofs.opening.objects_on.Given as goal

abbrev pub invariant-taps : goal.invariant-taps
invariant-taps l = l.objects ≡ objects_on (take l.tapped-index l.taps) l.centre
