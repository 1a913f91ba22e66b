use Rattle.std.proofs.Common.{◌≡◌, take}
use Rattle.script_core.specs.Taps.{empty_states}
use Rattle.script_core.proofs.taps.empty_states.Given as goal

abbrev pub invariant-objects : goal.invariant-objects
invariant-objects l = l.states ≡ empty_states (take l.object-index l.objects)
