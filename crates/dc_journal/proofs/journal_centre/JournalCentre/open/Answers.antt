use Rattle.std.proofs.Common.{List}
use Rattle.journal_disk.specs.declared.disk.Moment.{Moment}
use Rattle.journal_disk.specs.Disk.{seen}
use Rattle.journal_file.specs.Journal.{IsAt}
use Rattle.journal_asks.specs.Asks.{spelled}
use Rattle.dc_journal.specs.Files.{numbers}
use Rattle.dc_journal.proofs.Opened.{takes_asks, resumed, opened}
use Rattle.dc_journal.proofs.journal_centre.JournalCentre.open.Goals as goal

pub returns-in-Ok-resume-clause-ok : goal.returns-in-Ok-resume-clause-ok
returns-in-Ok-resume-clause-ok g c = λ h trail honest stands sound history file.
    let s = numbers c.args.me c.args.n c.args.k c.args.limit in
    let takes = c.in-Ok.ensures.read h (c.in-Ok-resume.ensures.honest honest) stands sound in
    resumed s h trail (g.D.Disk.stands c.recover.new.disk) _ takes.items c.in-Ok.end (λ (l : List Moment). IsAt spelled c.in-Ok.end l takes.items) _ file (takes_asks s c.in-Ok.centre (seen h) c.in-Ok.end trail takes file) takes.ends
    (c.in-Ok.ensures.settled h stands sound) (λ h1 stood is ends. c.in-Ok-resume.ensures.ok h1 takes.items stood is ends)
    (λ l at. opened _ s h l c.in-Ok.end trail takes file c.in-Ok.ensures.settings c.in-Ok-resume.ensures.end history at)

pub returns-in-Err-resume-clause-err : goal.returns-in-Err-resume-clause-err
returns-in-Err-resume-clause-err g c = λ h trail honest stands sound history file.
    let s = numbers c.args.me c.args.n c.args.k c.args.limit in
    let takes = c.in-Ok.ensures.read h (c.in-Err-resume.ensures.honest honest) stands sound in
    resumed s h trail (g.D.Disk.stands c.recover.new.disk) _ takes.items c.in-Ok.end (λ (l : List Moment). Unit {0}) _ file (takes_asks s c.in-Ok.centre (seen h) c.in-Ok.end trail takes file) takes.ends
    (c.in-Ok.ensures.settled h stands sound) (λ h1 stood is ends. c.in-Err-resume.ensures.err h1 takes.items stood is ends)
    (λ l at. c.in-Err-resume.ensures.not_bad)
