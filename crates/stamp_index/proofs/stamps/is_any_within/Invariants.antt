use Rattle.std.proofs.Common.{◌≡◌, drop}
use Rattle.vv_core.specs.Stamps.{is_any_within}
use Rattle.stamp_index.proofs.stamps.is_any_within.Given as goal

abbrev pub invariant-loop-stamp : goal.invariant-loop-stamp
invariant-loop-stamp l = is_any_within l.at (drop l.stamp-index l.stamps) ≡ is_any_within l.at l.stamps
