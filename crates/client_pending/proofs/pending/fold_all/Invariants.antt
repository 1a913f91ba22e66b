use Rattle.std.proofs.Common.{◌≡◌, take}
use Rattle.tx_core.specs.States.{fold_of}
use Rattle.client_pending.proofs.pending.fold_all.Given as goal

abbrev pub invariant-loop-mark : goal.invariant-loop-mark
invariant-loop-mark l = l.state ≡ fold_of l.fn.state (take l.mark-index l.marked)
