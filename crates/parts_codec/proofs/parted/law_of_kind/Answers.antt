use Rattle.parts_codec.proofs.PointKinds.{are_of_kind}
use Rattle.parts_codec.proofs.parted.law_of_kind.Goals as goal

pub returns : goal.returns
returns c = are_of_kind
