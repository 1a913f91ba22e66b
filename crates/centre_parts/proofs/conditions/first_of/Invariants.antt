use Rattle.std.proofs.Common.{◌≡◌, drop}
use Rattle.std.specs.Prelude.{not}
use Rattle.list_core.specs.Firsts.{first_that}
use Rattle.centre_parts.specs.Tests.{passes}
use Rattle.centre_parts.proofs.conditions.first_of.Given as goal

abbrev pub invariant-loop-condition : goal.invariant-loop-condition
invariant-loop-condition l = first_that (λ q. not (passes q l.parts)) (drop l.condition-index l.conditions) ≡ first_that (λ q. not (passes q l.parts)) l.conditions
