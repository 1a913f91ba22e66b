use Rattle.vv_core.proofs.Sound.{meet_of_sound}
use Rattle.vv_core.proofs.laws.law_meet_sound.Goals as goal

pub returns : goal.returns
returns c = meet_of_sound
