use Rattle.std.proofs.Common.{◌∙◌, arith}
use Rattle.read_tap.proofs.Fronts.{placed_again}
use Rattle.read_tap.proofs.shows.catch_up.Goals as goal

pub add-requires-clause-next : goal.add-requires-clause-next
add-requires-clause-next c =
    let place = c.places.place in
    let other = c.index-others-place.result in
    let again = placed_again c.args.table.now c.args.others.now place other c.again.result c.requires.others (omega arith) c.index-others-place.is c.again.ensures in
    (again.0 ∙ c.places.invariant.2, again.1)
