use Rattle.wire_codec.proofs.Answering.{one_spelling}
use Rattle.wire_codec.proofs.laws.law_one_spelling.Goals as goal

pub returns : goal.returns
returns c = one_spelling
