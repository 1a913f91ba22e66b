use Rattle.state_codec.proofs.Begins.{one_spelling}
use Rattle.parts_codec.proofs.Spelled.{centre_tells}
use Rattle.parts_codec.proofs.laws.law_one_spelling.Goals as goal

pub returns : goal.returns
returns c = one_spelling centre_tells
