use Rattle.wire_codec.proofs.Answering.{in_fields}
use Rattle.wire_codec.proofs.laws.law_fields.Goals as goal

pub returns : goal.returns
returns c = in_fields
