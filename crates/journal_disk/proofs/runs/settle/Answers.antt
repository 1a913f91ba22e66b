use Rattle.journal_disk.proofs.Histories.{ran_settled}
use Rattle.journal_disk.proofs.runs.settle.Goals as goal

pub returns-clause-stands : goal.returns-clause-stands
returns-clause-stands g c = λ h stands sound. ran_settled (g.D.Disk.stands c.sync.new.self) h c.sync.result sound (c.sync.ensures.stands h stands)
