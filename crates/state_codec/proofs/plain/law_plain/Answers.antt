use Rattle.state_codec.proofs.Plains.{same_plain}
use Rattle.state_codec.proofs.plain.law_plain.Goals as goal

pub returns : goal.returns
returns c = same_plain
