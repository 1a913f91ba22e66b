use Rattle.std.proofs.Common.{◌≡◌, ◌<◌, length, refl, sym, subst, rules}
use Rattle.journal_file.proofs.Items.{at_none, at_more}
use Rattle.journal_file.proofs.Protocol.{ran_stands, untouched, appended}
use Rattle.journal_file.proofs.journal.Journal.put.Goals as goal

pub returns-then-is_empty-clause-moments : goal.returns-then-is_empty-clause-moments
returns-then-is_empty-clause-moments g c = λ h xs stands at.
    let none : length c.args.items.now ≡ 0 = search rules in
    untouched g.T.Item.spelled (g.D.Disk.stands c.args.self.now.disk) c.args.self.now.end h xs c.args.items.now at _ stands (at_none g.T.Item.spelled xs c.args.items.now c.args.self.now.end h none at)

pub returns-in-Ok-clause-moments : goal.returns-in-Ok-clause-moments
returns-in-Ok-clause-moments g c = λ h xs stands at.
    let some : 0 < length c.args.items.now = search rules in
    let is = c.requires.out in
    appended g.T.Item.spelled (g.D.Disk.stands c.publish.new.disk) c.args.self.now.end h xs c.args.items.now at c.args.out.now _ _ some is
    (λ l q. at_more g.T.Item.spelled xs at.front at.entries c.args.items.now c.args.out.now c.args.self.now.end _ l some is q.0 q.1 at.place refl)
    (c.in-Ok.ensures.moments h at.front stands at.settled at.file_is (sym at.place))

pub returns-in-Err-clause-moments : goal.returns-in-Err-clause-moments
returns-in-Err-clause-moments g c = λ h xs stands at.
    let some : 0 < length c.args.items.now = search rules in
    ran_stands (g.D.Disk.stands c.publish.new.disk) (g.D.Disk.stands c.close.new.self.disk) h _ _ (λ l s. subst (λ d. g.D.Disk.stands d l) (sym c.close.ensures.disk) s)
    (appended g.T.Item.spelled (g.D.Disk.stands c.publish.new.disk) c.args.self.now.end h xs c.args.items.now at c.args.out.now _ _ some c.requires.out (λ l q. tt)
    (c.in-Err.ensures.moments h at.front stands at.settled at.file_is (sym at.place)))
