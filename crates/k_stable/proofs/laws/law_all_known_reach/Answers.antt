use Rattle.k_stable.proofs.Sound.{all_known_reach}
use Rattle.k_stable.proofs.laws.law_all_known_reach.Goals as goal

pub returns : goal.returns
returns c = all_known_reach
