use Rattle.parts_frames.proofs.Trails.{ranged}
use Rattle.parts_frames.proofs.laws.law_ranged.Goals as goal

pub returns : goal.returns
returns c = ranged
