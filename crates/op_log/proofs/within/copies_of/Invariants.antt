use Rattle.std.proofs.Common.{◌≡◌, ◌++◌, map}
use Rattle.op_log.specs.Tables.{found_of}
use Rattle.op_log.proofs.within.copies_of.Given as goal

abbrev pub invariant-loop-number : goal.invariant-loop-number
invariant-loop-number l = l.txs.items ++ map (λ x. x.tx) (found_of l.slots.entries l.number-iterator) ≡ map (λ x. x.tx) (found_of l.slots.entries l.numbers.keys)
