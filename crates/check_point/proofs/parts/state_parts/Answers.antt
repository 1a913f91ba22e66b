use Rattle.std.proofs.Common.{◌≡◌}
use Rattle.check_point.specs.PointParts.{state_entries}
use Rattle.check_point.proofs.TakingApart.{all_put, states_ascend, states_told, states_only}
use Rattle.check_point.proofs.parts.state_parts.Goals as goal

pub returns : goal.returns
returns c =
    let parts = c.loop-object.parts in
    let map = c.in_ok-items.items in
    let gives = c.into_iter-object-iterator.ensures.into_iter_gives in
    let is : state_entries parts ≡ map.entries = all_put (state_entries parts) c.loop-object.object-iterator c.into_iter-object-iterator.result map.entries c.loop-object.invariant c.in-None.ensures.steps.0 gives.0 in
    let up = states_ascend parts map.entries is gives.5 in
    let told = states_told parts map.entries c.args.kept.now.entries is c.in_ok-items.ensures in
    record { order = up; told = told; only = λ others rise said. states_only c.args.kept.now.entries parts others up told rise said }
