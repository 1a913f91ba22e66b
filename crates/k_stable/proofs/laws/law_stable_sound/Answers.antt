use Rattle.k_stable.proofs.Sound.{stable_sound}
use Rattle.k_stable.proofs.laws.law_stable_sound.Goals as goal

pub returns : goal.returns
returns c = stable_sound
