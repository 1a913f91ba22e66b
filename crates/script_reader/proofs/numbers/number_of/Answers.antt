use Rattle.std.proofs.Common.{arith}
use Rattle.script_reader.proofs.Digits.{digit_at, number_fits}
use Rattle.script_reader.proofs.numbers.number_of.Goals as goal

pub overflow_mul-number : goal.overflow_mul-number
overflow_mul-number c = let fits = number_fits c.loop-byte.number c.loop-byte.byte-index c.loop-byte.invariant.below (omega arith) in omega arith

pub overflow_add-number : goal.overflow_add-number
overflow_add-number c =
    let fits = number_fits c.loop-byte.number c.loop-byte.byte-index c.loop-byte.invariant.below (omega arith) in
    let digit = digit_at c.args.word.now c.loop-byte.byte-index c.requires.digits (omega arith) in
    omega arith
