use Rattle.std.proofs.Common.{◌≡◌, drop}
use Rattle.tally_core.specs.Listing.{ascend_from}
use Rattle.tally_core.proofs.listing.ascend_from.Given as goal

abbrev pub invariant-loop-place : goal.invariant-loop-place
invariant-loop-place g l = ascend_from l.fn.low l.list ≡ ascend_from l.last (drop l.place-index l.list)
