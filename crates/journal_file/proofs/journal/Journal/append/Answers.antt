use Rattle.std.proofs.Common.{◌++◌}
use Rattle.journal_file.specs.Journal.{IsEither, IsAt}
use Rattle.journal_file.proofs.Protocol.{untouched, ran_shuts, on_match_err}
use Rattle.journal_file.proofs.journal.Journal.append.Goals as goal

pub returns-then-self-gt-MOST-clause-moments : goal.returns-then-self-gt-MOST-clause-moments
returns-then-self-gt-MOST-clause-moments g c = λ h xs unshut stands at.
    untouched g.T.Item.spelled (g.D.Disk.stands c.args.self.now.disk) c.args.self.now.end h xs c.args.items.now at _ stands (λ _. at)

pub returns-in_err-out-clause-moments : goal.returns-in_err-out-clause-moments
returns-in_err-out-clause-moments g c = λ h xs unshut stands at.
    untouched g.T.Item.spelled (g.D.Disk.stands c.args.self.now.disk) c.args.self.now.end h xs c.args.items.now at _ stands (on_match_err _ _ _ c.from_residual.ensures.0 (λ _ _. at))

pub returns-clause-moments : goal.returns-clause-moments
returns-clause-moments g c = λ h xs unshut stands at.
    ran_shuts (g.D.Disk.stands c.put.new.self.disk) h (IsEither g.T.Item.spelled xs (xs ++ c.args.items.now)) (λ l. IsAt g.T.Item.spelled c.put.new.self.end l (xs ++ c.args.items.now)) (λ l. IsAt g.T.Item.spelled c.put.new.self.end l xs)
    c.put.result c.put.new.self.shut c.put.ensures.closes (c.put.ensures.moments h xs stands at)
