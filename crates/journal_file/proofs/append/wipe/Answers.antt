use Rattle.journal_disk.proofs.Histories.{on_err}
use Rattle.std.proofs.Common.{arith}
use Rattle.journal_file.proofs.Wiping.{wiped_first, wiped_both}
use Rattle.journal_file.proofs.append.wipe.Goals as goal

pub returns-in_err-store-clause-moments : goal.returns-in_err-store-clause-moments
returns-in_err-store-clause-moments g c = λ h gate rest stands settled is.
    wiped_first h gate rest is (g.D.Disk.stands c.store.new.disk) _ _ (λ l q. on_err _ _ c.from_residual.ensures.0) (c.in_err-store.ensures.stands h stands settled (omega arith))

pub returns-clause-moments : goal.returns-clause-moments
returns-clause-moments g c = λ h gate rest stands settled is.
    wiped_both h gate rest is (g.D.Disk.stands c.store.new.disk) (g.D.Disk.stands c.shorten.new.disk) c.shorten.result (c.in_ok-store.ensures.stands h stands settled (omega arith)) c.shorten.ensures.stands
