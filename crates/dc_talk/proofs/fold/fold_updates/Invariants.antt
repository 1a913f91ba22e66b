use Rattle.std.proofs.Common.{◌≡◌, drop}
use Rattle.tx_core.specs.States.{fold_of}
use Rattle.tx_core.specs.Operations.{ops_from}
use Rattle.dc_talk.proofs.fold.fold_updates.Given as goal

abbrev pub invariant-loop-place : goal.invariant-loop-place
invariant-loop-place l = fold_of l.state (ops_from l.object l.rank l.dot l.place (drop l.place l.updates)) ≡ fold_of l.fn.state (ops_from l.object l.rank l.dot 0 l.updates)
