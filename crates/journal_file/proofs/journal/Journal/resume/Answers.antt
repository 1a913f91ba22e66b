use Rattle.std.proofs.Common.{Ok, Err, Result}
use Rattle.journal_disk.specs.declared.disk.DiskFault.{DiskFault}
use Rattle.journal_disk.specs.Disk.{seen}
use Rattle.journal_file.proofs.Recovering.{cut_within, resumed}
use Rattle.journal_file.proofs.journal.Journal.resume.Goals as goal

abbrev done : Result (Unit {0}) DiskFault
done = Ok tt

abbrev err : DiskFault → Result (Unit {0}) DiskFault
err fault = Err fault

pub returns-in-Ok-clause-ok : goal.returns-in-Ok-clause-ok
returns-in-Ok-clause-ok g c = λ h xs stands settled ends.
    resumed g.T.Item.spelled h xs (g.D.Disk.stands c.shorten.new.disk) c.args.end done _ ends
    (c.in-Ok.ensures.stands h stands settled (cut_within g.T.Item.spelled h xs c.args.end (seen h) ends)) (λ l q. q)

pub returns-in-Err-clause-err : goal.returns-in-Err-clause-err
returns-in-Err-clause-err g c = λ h xs stands settled ends.
    resumed g.T.Item.spelled h xs (g.D.Disk.stands c.shorten.new.disk) c.args.end (err c.in-Err.fault) _ ends
    (c.in-Err.ensures.stands h stands settled (cut_within g.T.Item.spelled h xs c.args.end (seen h) ends)) (λ l q. tt)
