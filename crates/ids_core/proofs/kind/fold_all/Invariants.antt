use Rattle.std.proofs.Common.{◌≡◌, fold, take}
use Rattle.ids_core.proofs.kind.fold_all.Given as goal

abbrev pub invariant-loop-mark : goal.invariant-loop-mark
invariant-loop-mark g l = l.state ≡ fold g.K.Kind.step g.K.Kind.start (take l.mark-index l.ops)
