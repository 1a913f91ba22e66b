use Rattle.std.proofs.Common.{◌≡◌, length, nat_lt}
use Rattle.std.specs.Prelude.{min}
use Rattle.machine_trail.specs.History.{IsKept}
use Rattle.samples.specs.declared.gate.Gate.{Gate}
use Rattle.benchmarks.proofs.lock.alone.Given as goal

abbrev pub invariant-calls : goal.invariant-calls
invariant-calls l = IsKept (λ most log guest enters. enters ≡ nat_lt (length log) most) (λ (gate : Gate) log. gate.inside ≡ min (length log) gate.most) (λ (gate : Gate). gate.most) l.kept.machine l.kept.trail.entries
