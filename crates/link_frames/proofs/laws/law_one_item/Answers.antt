use Rattle.link_frames.proofs.Items.{one_item}
use Rattle.link_frames.proofs.laws.law_one_item.Goals as goal

pub returns : goal.returns
returns c = one_item
