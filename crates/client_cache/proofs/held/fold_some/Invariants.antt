use Rattle.std.proofs.Common.{◌≡◌, take}
use Rattle.tx_core.specs.States.{fold_of}
use Rattle.client_cache.proofs.held.fold_some.Given as goal

abbrev pub invariant-loop-count : goal.invariant-loop-count
invariant-loop-count l = l.state ≡ fold_of l.fn.state (take l.count l.marked)
