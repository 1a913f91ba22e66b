use Rattle.vv_core.proofs.Sound.{join_of_sound}
use Rattle.vv_core.proofs.laws.law_join_sound.Goals as goal

pub returns : goal.returns
returns c = join_of_sound
