use Rattle.k_stable.proofs.Sound.{learn_sound}
use Rattle.k_stable.proofs.laws.law_learn_sound.Goals as goal

pub returns : goal.returns
returns c = learn_sound
