use Rattle.link_frames.proofs.Items.{item_read}
use Rattle.link_frames.proofs.laws.law_item_read.Goals as goal

pub returns : goal.returns
returns c = item_read
