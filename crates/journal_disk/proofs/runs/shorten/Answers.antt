use Rattle.std.proofs.Common.{refl}
use Rattle.journal_disk.specs.declared.disk.Step.TheVariants.{Cut}
use Rattle.journal_disk.specs.Disk.{seen, Shortens, Between}
use Rattle.journal_disk.proofs.Histories.{on_err, ran_failed, ran_synced}
use Rattle.journal_disk.proofs.Torn.{between_base, between_cut, between_whole}
use Rattle.journal_disk.proofs.runs.shorten.Goals as goal

pub returns-in_err-cut-clause-stands : goal.returns-in_err-cut-clause-stands
returns-in_err-cut-clause-stands g c = λ h stands settled within.
    let at = c.args.to in
    ran_failed (g.D.Disk.stands c.cut.new.self) h (Between at (seen h)) (between_base h settled at) _ (Cut at) (c.in_err-cut.ensures.stands h stands) (between_cut h settled at) (λ later. on_err _ _ c.from_residual.ensures.0)

pub returns-clause-stands : goal.returns-clause-stands
returns-clause-stands g c = λ h stands settled within.
    let at = c.args.to in
    let was_cut = c.in_ok-cut.ensures.stands h stands in
    ran_synced (g.D.Disk.stands c.sync.new.self) h (Between at (seen h)) (between_base h settled at) (Cut at) refl settled.sound was_cut.0 (between_cut h settled at was_cut.0) (between_whole at (seen h) was_cut.0 (was_cut.1.1 within))
    (Shortens at (seen h)) (was_cut.1.1 within) c.sync.result (c.sync.ensures.stands _ was_cut.1.0)
