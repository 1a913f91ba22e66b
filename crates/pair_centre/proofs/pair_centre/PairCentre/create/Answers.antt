use Rattle.pair_centre.proofs.Keeping.{made}
use Rattle.pair_centre.proofs.pair_centre.PairCentre.create.Goals as goal

pub returns-in-Ok-create-clause-ok : goal.returns-in-Ok-create-clause-ok
returns-in-Ok-create-clause-ok g c = λ h l one two sound_h sound_l.
    made _ (g.D.Disk.stands _) (g.D.Disk.stands _) h l c.in-Ok.ensures.stands (c.in-Ok-create.ensures.ok h l one two sound_h sound_l)
