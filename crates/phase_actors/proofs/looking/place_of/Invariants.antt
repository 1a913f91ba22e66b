use Rattle.std.proofs.Common.{◌≡◌, drop, List}
use Rattle.tx_core.specs.declared.state.State.{State}
use Rattle.script_core.specs.Taps.{state_shown}
use Rattle.phase_actors.proofs.looking.place_of.Given as goal

abbrev pub invariant-places : goal.invariant-places
invariant-places l = (states : List State) → state_shown l.objects states l.object ≡ state_shown (drop l.place l.objects) (drop l.place states) l.object
