use Rattle.std.proofs.Common.{◌∙◌}
use Rattle.dup_guard.proofs.Parts.{put_more, ascends_drop, left_is}
use Rattle.dup_guard.proofs.guard.Guard.of_parts.Goals as goal

pub loop-part-preserved : goal.loop-part-preserved
loop-part-preserved c client =
    let parts = c.args.parts.now in
    let i = c.loop-part.part-index in
    put_more _ _ _ _ _ client (left_is parts i _ c.loop-part-test.true) (ascends_drop i parts c.requires.ascends) (c.put.ensures client) ∙ c.loop-part.invariant client
