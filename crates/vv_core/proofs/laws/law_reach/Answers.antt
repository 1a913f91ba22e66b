use Rattle.vv_core.proofs.Reaching.{kth_of_reached, reached_kth_of}
use Rattle.vv_core.proofs.laws.law_reach.Goals as goal

pub returns : goal.returns
returns c k m xs one few = (kth_of_reached k m xs few, reached_kth_of k m xs one)
