use Rattle.std.proofs.Common.{◌≡◌, ◌+◌, ◌++◌, length}
use Rattle.op_log.specs.RestParts.{logged_from}
use Rattle.op_log.proofs.log.Log.of_parts.Given as goal

abbrev pub invariant-loop-part : goal.invariant-loop-part
invariant-loop-part l = record {
  items : l.log.items ++ logged_from l.log.appended l.part-iterator.rest.items ≡ logged_from 0 l.fn.parts;
  appended : l.log.appended + length l.part-iterator.rest.items ≡ length l.fn.parts;
}
