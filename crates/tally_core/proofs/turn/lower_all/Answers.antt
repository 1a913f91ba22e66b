use Rattle.std.proofs.Common.{◌+◌, drop, get_or, subst}
use Rattle.std.proofs.lemmas.List.{drop_more}
use Rattle.ids_core.specs.Ascending.{IsAscending}
use Rattle.tally_core.specs.Room.{CanLower}
use Rattle.tally_core.proofs.Fitting.{lower_first, lower_rest, lowered_more, ascending_rest}
use Rattle.tally_core.specs.Places.{least_id}
use Rattle.tally_core.proofs.turn.lower_all.Goals as goal

pub lower-requires : goal.lower-requires
lower-requires g c = record {
  parted = c.loop-id.invariant.0;
  falls = lower_first c.loop-id.cells c.args.name.now c.args.over.now c.loop-id.id-index least_id c.loop-id-test.true c.loop-id.invariant.3;
}

pub loop-id-preserved : goal.loop-id-preserved
loop-id-preserved g c =
    let name = c.args.name.now in let over = c.args.over.now in let i = c.loop-id.id-index in
    let more = drop_more over i least_id c.loop-id-test.true in
    let up = subst IsAscending more c.loop-id.invariant.2 in
    let can = subst (CanLower c.loop-id.cells name) more c.loop-id.invariant.3 in (
      c.lower.ensures.parted,
      lowered_more _ _ _ name over i c.loop-id-test.true c.lower.ensures.view c.loop-id.invariant.1,
      ascending_rest (get_or over i least_id) (drop (i + 1) over) up,
      lower_rest c.loop-id.cells c.lower.new.cells name (get_or over i least_id) (drop (i + 1) over) up c.lower.ensures.stays can,
    )
