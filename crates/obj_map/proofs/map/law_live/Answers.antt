use Rattle.tally_core.proofs.Alive.{live_by_ops}
use Rattle.obj_map.specs.Maps.{does}
use Rattle.obj_map.proofs.map.law_live.Goals as goal

pub returns : goal.returns
returns c ops s apart is = live_by_ops does ops s apart is
