use Rattle.vv_core.proofs.Sound.{kth_largest_sound}
use Rattle.vv_core.proofs.laws.law_kth_sound.Goals as goal

pub returns : goal.returns
returns c = kth_largest_sound
