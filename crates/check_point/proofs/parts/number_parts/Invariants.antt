use Rattle.std.proofs.Common.{◌≡◌, ◌++◌}
use Rattle.check_point.specs.PointParts.{number_entries}
use Rattle.check_point.proofs.parts.number_parts.Given as goal

abbrev pub invariant-loop-client : goal.invariant-loop-client
invariant-loop-client l = number_entries l.parts ++ l.client-iterator ≡ l.initial.client-iterator
