use Rattle.link_frames.proofs.Items.{bend_bad}
use Rattle.link_frames.proofs.laws.law_bend_is_bad.Goals as goal

pub returns : goal.returns
returns c = bend_bad
