use Rattle.std.proofs.Common.{◌≡◌, ◌++◌}
use Rattle.check_point.specs.PointParts.{state_entries}
use Rattle.check_point.proofs.parts.state_parts.Given as goal

abbrev pub invariant-loop-object : goal.invariant-loop-object
invariant-loop-object l = state_entries l.parts ++ l.object-iterator ≡ l.initial.object-iterator
