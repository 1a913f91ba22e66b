use Rattle.trail_frames.proofs.Carrying.{few_counted, modest_vector}
use Rattle.trail_frames.proofs.laws.law_modest.Goals as goal

pub returns : goal.returns
returns c = record { counts = λ s trail e history. few_counted s trail history e; modest = modest_vector }
