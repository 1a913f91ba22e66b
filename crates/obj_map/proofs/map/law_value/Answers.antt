use Rattle.obj_map.proofs.Values.{value_exact}
use Rattle.obj_map.proofs.map.law_value.Goals as goal

pub returns : goal.returns
returns c ops s apart is key word = value_exact ops s apart is key word
