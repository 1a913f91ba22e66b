use Rattle.trail_frames.proofs.Carrying.{carried_is}
use Rattle.trail_frames.proofs.laws.law_carried.Goals as goal

pub returns : goal.returns
returns c = λ s trail sent history i. carried_is s trail history sent i
