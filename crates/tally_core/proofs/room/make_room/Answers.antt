use Rattle.std.proofs.Common.{◌∙◌}
use Rattle.tally_core.specs.Places.{least_id}
use Rattle.tally_core.proofs.Fitting.{stood_more}
use Rattle.tally_core.proofs.room.make_room.Goals as goal

pub loop-id-preserved : goal.loop-id-preserved
loop-id-preserved g c = (
  c.in_ok-stand.ensures.parted,
  c.in_ok-stand.ensures.view ∙ c.loop-id.invariant.1,
  stood_more c.loop-id.cells c.stand.new.cells c.args.name.now c.args.over.now c.loop-id.id-index least_id c.loop-id-test.true c.in_ok-stand.ensures.stays c.in_ok-stand.ensures.falls c.loop-id.invariant.2,
)
