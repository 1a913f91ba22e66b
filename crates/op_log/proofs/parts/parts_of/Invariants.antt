use Rattle.std.proofs.Common.{◌≡◌, ◌++◌}
use Rattle.std.specs.Map.{values_of}
use Rattle.op_log.specs.RestParts.{parts_of}
use Rattle.op_log.proofs.parts.parts_of.Given as goal

abbrev pub invariant-loop-x : goal.invariant-loop-x
invariant-loop-x l = l.parts ++ parts_of l.x-iterator ≡ parts_of (values_of l.slots.entries)
