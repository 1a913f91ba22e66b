use Rattle.std.proofs.Common.{◌≡◌, [], take}
use Rattle.std.specs.Prelude.{All}
use Rattle.script_core.specs.declared.taps.TapState.{TapState}
use Rattle.thread_run.proofs.tapping.have_objects.Given as goal

abbrev pub invariant-taps : goal.invariant-taps
invariant-taps l = All (λ (tap : TapState). tap.objects ≡ []) (take l.tap-index l.taps)
