use Rattle.std.proofs.Common.{arith}
use Rattle.std.proofs.lemmas.List.{nil_from_length}
use Rattle.op_log.proofs.RestParts.{parts_back, next_new}
use Rattle.op_log.proofs.log.Log.of_parts.Goals as goal

pub with-requires-clause-new : goal.with-requires-clause-new
with-requires-clause-new c = next_new _ c.loop-part.log.items _ c.next.new.self.rest.items c.args.parts c.in-Some.part c.loop-part.invariant.items c.in-Some.ensures.steps.0 c.requires.apart

pub returns-clause-back : goal.returns-clause-back
returns-clause-back c = parts_back _ c.loop-part.log.items c.loop-part.part-iterator.rest.items c.args.parts c.loop-part.invariant.items (nil_from_length c.loop-part.part-iterator.rest.items (omega (arith, c.loop-part.part-iterator.rest.ok, c.in-None.ensures.steps.0)))
