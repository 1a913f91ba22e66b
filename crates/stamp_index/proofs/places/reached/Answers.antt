use Rattle.std.proofs.Common.{◌≡◌, rules, ◌∙◌}
use Rattle.std.specs.Prelude.{filter}
use Rattle.std.specs.declared.ops.Bound.TheVariants.{Included}
use Rattle.std.specs.BTreeMap.Range.{range_contains}
use Rattle.stamp_index.specs.Places.{place_cmp}
use Rattle.stamp_index.proofs.PlaceOrders.{first_place, last_place, all_between}
use Rattle.stamp_index.proofs.places.reached.Goals as goal

pub returns : goal.returns
returns c =
    let is : c.range.result ≡ filter (range_contains place_cmp (Included (first_place c.args.centre)) (Included (last_place c.args.centre c.args.seq))) c.args.places.now.keys = search rules in
    is ∙ all_between c.args.centre c.args.seq c.args.places.now.keys c.requires
