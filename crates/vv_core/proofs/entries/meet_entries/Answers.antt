use Rattle.std.proofs.Common.{arith}
use Rattle.vv_core.proofs.Entrywise.{is_meet_of}
use Rattle.vv_core.proofs.entries.meet_entries.Goals as goal

pub returns : goal.returns
returns c = is_meet_of c.loop-e.into c.args.left.now c.args.right.now (omega arith) (omega arith) (λ i lt. c.loop-e.invariant i (omega arith))
