use Rattle.std.proofs.Common.{◌≡◌, drop}
use Rattle.script_core.specs.Taps.{state_shown}
use Rattle.run_table.proofs.looking.state_shown.Given as goal

abbrev pub invariant-places : goal.invariant-places
invariant-places l = state_shown l.objects l.states l.object ≡ state_shown (drop l.place l.objects) (drop l.place l.states) l.object
