use Rattle.wire_codec.proofs.Answering.{front_ends}
use Rattle.wire_codec.proofs.laws.law_front.Goals as goal

pub returns : goal.returns
returns c = front_ends
