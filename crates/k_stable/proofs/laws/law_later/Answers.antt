use Rattle.k_stable.proofs.Later.{learn_later, stable_grows, all_known_grows, all_known_own}
use Rattle.k_stable.proofs.laws.law_later.Goals as goal

pub returns : goal.returns
returns c = record {
  learn = learn_later;
  stable = λ old new own later was is wide long h more. stable_grows old new own later h more was is wide long;
  all_known = all_known_grows;
  own = all_known_own;
}
