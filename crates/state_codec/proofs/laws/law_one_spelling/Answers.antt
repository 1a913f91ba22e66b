use Rattle.state_codec.proofs.Spelled.{plain_tells}
use Rattle.state_codec.proofs.Begins.{one_spelling}
use Rattle.state_codec.proofs.laws.law_one_spelling.Goals as goal

pub returns : goal.returns
returns c = one_spelling plain_tells
