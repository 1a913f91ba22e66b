use Rattle.trail_journal.proofs.Openings.{opened_again, none_bad}
use Rattle.trail_journal.proofs.journal.reopened.Goals as goal

pub returns-clause-ok : goal.returns-clause-ok
returns-clause-ok g c = opened_again c.args.journal c.args.settings c.requires.same c.part.result c.part.ensures g.D.Disk.is_honest g.D.Disk.stands c.open.result c.open.ensures.ok

pub returns-clause-err : goal.returns-clause-err
returns-clause-err g c = none_bad c.args.journal c.args.settings c.requires.same c.part.result c.part.ensures g.D.Disk.is_honest g.D.Disk.stands c.open.result c.open.ensures.err
