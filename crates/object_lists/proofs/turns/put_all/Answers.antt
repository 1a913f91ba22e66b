use Rattle.std.proofs.Common.{sym, ◌∙◌}
use Rattle.object_lists.specs.Listed.{listed}
use Rattle.object_lists.proofs.Ops.{put_more, no_error}
use Rattle.object_lists.proofs.turns.put_all.Goals as goal

pub loop-place-preserved : goal.loop-place-preserved
loop-place-preserved g c =
    let there = no_error c.put_update.result (sym c.is_err.ensures.value ∙ c.if-is_err.false) c.put_update.ensures.there in
    put_more (g.T.Entry.entry_of c.args.number) (listed c.args.lists.now) (listed c.loop-place.lists) (listed c.put_update.new.lists) c.args.rank c.args.dot.now c.args.updates.now c.loop-place.place c.index-updates-place.result c.loop-place-test.true c.index-updates-place.is c.loop-place.invariant (there, c.put_update.ensures.apart)
