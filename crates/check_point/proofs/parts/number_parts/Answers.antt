use Rattle.std.proofs.Common.{◌≡◌}
use Rattle.check_point.specs.PointParts.{number_entries}
use Rattle.check_point.proofs.TakingApart.{all_put, numbers_ascend, numbers_told, numbers_only}
use Rattle.check_point.proofs.parts.number_parts.Goals as goal

pub returns : goal.returns
returns c =
    let parts = c.loop-client.parts in
    let map = c.in_ok-items.items in
    let gives = c.into_iter-client-iterator.ensures.into_iter_gives in
    let is : number_entries parts ≡ map.entries = all_put (number_entries parts) c.loop-client.client-iterator c.into_iter-client-iterator.result map.entries c.loop-client.invariant c.in-None.ensures.steps.0 gives.0 in
    let up = numbers_ascend parts map.entries is gives.5 in
    let told = numbers_told parts map.entries c.args.kept.now.entries is c.in_ok-items.ensures in
    record { order = up; told = told; only = λ others rise said. numbers_only c.args.kept.now.entries parts others up told rise said }
