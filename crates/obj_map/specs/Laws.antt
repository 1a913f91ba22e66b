-- Operations of a map commute, and their fold is the state of the definition.
use Rattle.std.specs.Prelude.{List, fold}
use Rattle.ids_core.specs.declared.ids.Mark.{Mark}
use Rattle.ids_core.specs.Kinds.{Commutes, Distinct}
use Rattle.tally_core.proofs.Commutes as all
use Rattle.tally_core.proofs.Folded.{fold_defined}
use Rattle.obj_map.specs.declared.map.MapOp.{MapOp}
use Rattle.obj_map.specs.Maps.{does, start, step, IsStateOf}

pub step_commutes : Commutes step
step_commutes = all.step_commutes does

pub step_defined : (ops : List (Mark × MapOp)) → Distinct ops → IsStateOf ops (fold step start ops)
step_defined ops apart = fold_defined does ops
