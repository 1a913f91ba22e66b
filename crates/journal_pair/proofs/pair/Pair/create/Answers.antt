use Rattle.journal_pair.proofs.Pairs.{created, started}
use Rattle.journal_pair.proofs.Seating.{empty_at}
use Rattle.journal_pair.proofs.pair.Pair.create.Goals as goal

pub returns-in-Ok-start-clause-ok : goal.returns-in-Ok-start-clause-ok
returns-in-Ok-start-clause-ok g c = λ h k one two sound_h sound_k.
    let live = c.in-Ok-start.live in
    let other = c.in-Ok.other in
    created (g.D.Disk.stands live.disk) (g.D.Disk.stands other.disk) h k _ _ _
    (λ l m began made. started g.T.Item.spelled c.first-mark.result live.end other.end c.size-size.result l m c.size-size.ensures began (empty_at g.T.Item.spelled other.end m c.in-Ok.ensures.end made))
    (c.in-Ok-start.ensures.ok h one sound_h) (c.in-Ok.ensures.ok k two sound_k)
