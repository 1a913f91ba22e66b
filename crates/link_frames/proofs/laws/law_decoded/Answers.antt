use Rattle.link_frames.proofs.Items.{decoded_is}
use Rattle.link_frames.proofs.laws.law_decoded.Goals as goal

pub returns : goal.returns
returns c = decoded_is
