use Rattle.std.proofs.Common.{refl, length}
use Rattle.journal_disk.specs.declared.disk.Step.TheVariants.{Wrote}
use Rattle.journal_disk.specs.Disk.{seen, Holds, Torn}
use Rattle.journal_disk.proofs.Histories.{on_err, ran_failed, ran_synced}
use Rattle.journal_disk.proofs.Torn.{torn_base, torn_write, torn_whole}
use Rattle.journal_disk.proofs.runs.store.Goals as goal

pub returns-in_err-write_at-clause-stands : goal.returns-in_err-write_at-clause-stands
returns-in_err-write_at-clause-stands g c = λ h stands settled within.
    let at = c.args.at in
    let n = length c.args.piece.now in
    ran_failed (g.D.Disk.stands c.write_at.new.self) h (Torn at n (seen h)) (torn_base h settled at n) _ (Wrote at n) (c.in_err-write_at.ensures.stands h stands) (torn_write h settled at n) (λ later. on_err _ _ c.from_residual.ensures.0)

pub returns-clause-stands : goal.returns-clause-stands
returns-clause-stands g c = λ h stands settled within.
    let at = c.args.at in
    let n = length c.args.piece.now in
    let wrote = c.in_ok-write_at.ensures.stands h stands in
    ran_synced (g.D.Disk.stands c.sync.new.self) h (Torn at n (seen h)) (torn_base h settled at n) (Wrote at n) refl settled.sound wrote.0 (torn_write h settled at n wrote.0) (torn_whole (seen h) at c.args.piece.now wrote.0 within (wrote.1.1 within))
    (Holds (seen h) at c.args.piece.now) (wrote.1.1 within) c.sync.result (c.sync.ensures.stands _ wrote.1.0)
