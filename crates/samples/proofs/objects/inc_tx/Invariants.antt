use Rattle.std.proofs.Common.{◌≡◌, take}
use Rattle.samples.specs.Samples.{incs_of}
use Rattle.samples.proofs.objects.inc_tx.Given as goal

abbrev pub invariant-loop-delta : goal.invariant-loop-delta
invariant-loop-delta l = l.updates ≡ incs_of l.object (take l.delta-index l.deltas)
