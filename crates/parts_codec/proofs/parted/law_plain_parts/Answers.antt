use Rattle.parts_codec.proofs.PlainParts.{same_centre}
use Rattle.parts_codec.proofs.parted.law_plain_parts.Goals as goal

pub returns : goal.returns
returns c = same_centre
