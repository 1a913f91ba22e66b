use Rattle.obj_register.proofs.Greatest.{one_state}
use Rattle.obj_register.proofs.register.law_register.Goals as goal

pub returns : goal.returns
returns c = one_state
