use Rattle.std.proofs.Common.{◌≡◌, pos, drop, fold}
use Rattle.obj_counter.specs.Counter.{added}
use Rattle.obj_bounded.proofs.holder_rights.sum_of.Given as goal

abbrev pub invariant-loop-value : goal.invariant-loop-value
invariant-loop-value l = fold added l.sum (drop l.value-index l.values) ≡ fold added (pos 0) l.fn.values
