use Rattle.link_frames.proofs.Items.{cut_short}
use Rattle.link_frames.proofs.laws.law_cut_is_short.Goals as goal

pub returns : goal.returns
returns c = cut_short
