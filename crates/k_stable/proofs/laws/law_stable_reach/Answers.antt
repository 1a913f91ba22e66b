use Rattle.k_stable.proofs.Sound.{stable_reach}
use Rattle.k_stable.proofs.laws.law_stable_reach.Goals as goal

pub returns : goal.returns
returns c = stable_reach
