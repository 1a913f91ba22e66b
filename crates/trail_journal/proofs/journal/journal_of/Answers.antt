use Rattle.trail_journal.proofs.Groups.{filled_new}
use Rattle.trail_journal.proofs.journal.journal_of.Goals as goal

pub returns-in-Ok-clause-ok : goal.returns-in-Ok-clause-ok
returns-in-Ok-clause-ok g c = filled_new g.D.Disk.stands c.args.disk c.args.settings c.in-Ok.journal c.args.trail.now c.filled.result c.in-Ok.ensures.settings c.in-Ok.ensures.ok c.filled.ensures.ok
