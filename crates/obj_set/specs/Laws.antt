-- Operations of a set commute, and their fold is the state of the definition.
use Rattle.std.specs.Prelude.{List, fold}
use Rattle.ids_core.specs.declared.ids.Mark.{Mark}
use Rattle.ids_core.specs.Kinds.{Commutes, Distinct}
use Rattle.tally_core.proofs.Commutes as all
use Rattle.tally_core.proofs.Folded.{fold_defined}
use Rattle.obj_set.specs.declared.set.SetOp.{SetOp}
use Rattle.obj_set.specs.Sets.{does, start, step, IsStateOf}

pub step_commutes : Commutes step
step_commutes = all.step_commutes does

pub step_defined : (ops : List (Mark × SetOp)) → Distinct ops → IsStateOf ops (fold step start ops)
step_defined ops apart = fold_defined does ops
