use Rattle.journal_disk.proofs.Histories.{on_err}
use Rattle.journal_file.proofs.Beginning.{settling, cutting}
use Rattle.journal_pair.proofs.Starting.{writing}
use Rattle.journal_pair.proofs.beginning.write_anew.Goals as goal

pub returns-in_err-settle-clause-moments : goal.returns-in_err-settle-clause-moments
returns-in_err-settle-clause-moments g c = λ h stands sound. settling h (g.D.Disk.stands c.settle.new.disk) _ _ (λ l q. on_err _ _ c.from_residual.ensures.0) (c.in_err-settle.ensures.stands h stands sound)

pub returns-in_err-shorten-clause-moments : goal.returns-in_err-shorten-clause-moments
returns-in_err-shorten-clause-moments g c = λ h stands sound.
    cutting h (g.D.Disk.stands c.settle.new.disk) (g.D.Disk.stands c.shorten.new.disk) _ _ (λ l q. on_err _ _ c.from_residual-in_err-shorten.ensures.0) (c.in_ok-settle.ensures.stands h stands sound) c.in_err-shorten.ensures.stands

pub returns-clause-moments : goal.returns-clause-moments
returns-clause-moments g c = λ h stands sound.
    writing h c.args.bytes.now (g.D.Disk.stands c.settle.new.disk) (g.D.Disk.stands c.shorten.new.disk) (g.D.Disk.stands c.store.new.disk) c.store.result (c.in_ok-settle.ensures.stands h stands sound) c.in_ok-shorten.ensures.stands c.store.ensures.stands
