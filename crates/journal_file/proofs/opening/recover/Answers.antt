use Rattle.std.proofs.Common.{◌≡◌, Ok, Err, Result, sym, ◌∙◌, subst}
use Rattle.journal_disk.specs.declared.disk.DiskFault.{DiskFault}
use Rattle.journal_disk.specs.Disk.{seen}
use Rattle.journal_file.specs.Faults.{IsBad, open_fault}
use Rattle.journal_file.specs.Journal.{FileOf, EndsAt, IsBadAt}
use Rattle.journal_file.proofs.Recovering.{disk_not_bad, disk_no_place, on_if_err, on_match_err_and, only_read, recovered}
use Rattle.journal_file.proofs.opening.recover.Goals as goal

abbrev done : Result (Unit {0}) DiskFault
done = Ok tt

abbrev err : DiskFault → Result (Unit {0}) DiskFault
err fault = Err fault

pub returns-in_err-settle-clause-moments : goal.returns-in_err-settle-clause-moments
returns-in_err-settle-clause-moments g c = λ h xs honest stands sound file.
    only_read g.T.Item.spelled h xs (g.D.Disk.stands c.settle.new.disk) (g.D.Disk.stands c.settle.new.disk) _ _ file (λ l s. s)
    (λ l q. on_match_err_and _ _ _ _ c.from_residual.ensures.1 (λ e is. disk_not_bad c.in_err-settle.field-0.0 e is)) (c.in_err-settle.ensures.stands h stands sound)

pub returns-in_err-bytes-clause-moments : goal.returns-in_err-bytes-clause-moments
returns-in_err-bytes-clause-moments g c = λ h xs honest stands sound file.
    only_read g.T.Item.spelled h xs (g.D.Disk.stands c.settle.new.disk) (g.D.Disk.stands c.read_all.new.disk) _ _ file c.in_err-bytes.ensures.stands
    (λ l q. on_match_err_and _ _ _ _ c.from_residual-in_err-bytes.ensures.1 (λ e is. disk_not_bad c.in_err-bytes.field-0.0 e is)) (c.in_ok-settle.ensures.stands h stands sound)

pub returns-in_err-end-clause-moments : goal.returns-in_err-end-clause-moments
returns-in_err-end-clause-moments g c = λ h xs honest stands sound file.
    let ran = c.in_ok-settle.ensures.stands h stands sound in
    let bytes = c.deref.ensures.value ∙ c.in_ok-bytes.ensures.bytes honest _ ran.stands_for ∙ ran.ends.1 in
    let read : FileOf g.T.Item.spelled xs c.deref.result.now = subst (FileOf g.T.Item.spelled xs) (sym bytes) file in
    only_read g.T.Item.spelled h xs (g.D.Disk.stands c.settle.new.disk) (g.D.Disk.stands c.read_all.new.disk) _ _ file c.in_ok-bytes.ensures.stands
    (λ l q. on_match_err_and _ _ (λ e. e ≡ c.in_err-end.field-0.0) _ c.from_residual-in_err-end.ensures.1 (λ e is bad. c.in_err-end.ensures.bad xs read (subst IsBad is bad))) ran

pub returns-in_err-shorten-clause-moments : goal.returns-in_err-shorten-clause-moments
returns-in_err-shorten-clause-moments g c = λ h xs honest stands sound file.
    let ran = c.in_ok-settle.ensures.stands h stands sound in
    let bytes = c.deref.ensures.value ∙ c.in_ok-bytes.ensures.bytes (c.in_err-shorten.ensures.honest honest) _ ran.stands_for ∙ ran.ends.1 in
    let read : FileOf g.T.Item.spelled xs c.deref.result.now = subst (FileOf g.T.Item.spelled xs) (sym bytes) file in
    let items = c.in_ok-end.ensures.only xs read in
    let ends : EndsAt g.T.Item.spelled xs c.in_ok-end.end (seen h) = subst (EndsAt g.T.Item.spelled xs c.in_ok-end.end) bytes (subst (λ ys. EndsAt g.T.Item.spelled ys c.in_ok-end.end c.deref.result.now) items c.in_ok-end.ensures.ends) in
    recovered g.T.Item.spelled h xs (g.D.Disk.stands c.settle.new.disk) (g.D.Disk.stands c.read_all.new.disk) (g.D.Disk.stands c.shorten.new.disk) c.in_ok-end.end (err c.in_err-shorten.field-0.0) _ ends ran c.in_ok-bytes.ensures.stands c.in_err-shorten.ensures.stands
    (λ l q. on_match_err_and _ _ _ _ c.from_residual-in_err-shorten.ensures.1 (λ e is. disk_not_bad c.in_err-shorten.field-0.0 e is))

pub returns-clause-moments : goal.returns-clause-moments
returns-clause-moments g c = λ h xs honest stands sound file.
    let ran = c.in_ok-settle.ensures.stands h stands sound in
    let bytes = c.deref.ensures.value ∙ c.in_ok-bytes.ensures.bytes (c.in_ok-shorten.ensures.honest honest) _ ran.stands_for ∙ ran.ends.1 in
    let read : FileOf g.T.Item.spelled xs c.deref.result.now = subst (FileOf g.T.Item.spelled xs) (sym bytes) file in
    let items = c.in_ok-end.ensures.only xs read in
    let ends : EndsAt g.T.Item.spelled xs c.in_ok-end.end (seen h) = subst (EndsAt g.T.Item.spelled xs c.in_ok-end.end) bytes (subst (λ ys. EndsAt g.T.Item.spelled ys c.in_ok-end.end c.deref.result.now) items c.in_ok-end.ensures.ends) in
    recovered g.T.Item.spelled h xs (g.D.Disk.stands c.settle.new.disk) (g.D.Disk.stands c.read_all.new.disk) (g.D.Disk.stands c.shorten.new.disk) c.in_ok-end.end done _ ends ran c.in_ok-bytes.ensures.stands c.in_ok-shorten.ensures.stands
    (λ l q. (q, items))

pub returns-clause-is : goal.returns-clause-is
returns-clause-is g c = λ h honest stands sound.
    let ran = c.in_ok-settle.ensures.stands h stands sound in
    let bytes = c.deref.ensures.value ∙ c.in_ok-bytes.ensures.bytes (c.in_ok-shorten.ensures.honest honest) _ ran.stands_for ∙ ran.ends.1 in
    subst (FileOf g.T.Item.spelled c.in_ok-end.items.items) bytes (c.in_ok-end.end, c.in_ok-end.ensures.ends)

pub returns-in_err-settle-clause-place : goal.returns-in_err-settle-clause-place
returns-in_err-settle-clause-place g c = on_if_err _ (λ e. e ≡ open_fault c.in_err-settle.field-0.0) _ c.from_residual.ensures.1 (λ e is h place bad. absurd (disk_no_place c.in_err-settle.field-0.0 e place is bad))

pub returns-in_err-bytes-clause-place : goal.returns-in_err-bytes-clause-place
returns-in_err-bytes-clause-place g c = on_if_err _ (λ e. e ≡ open_fault c.in_err-bytes.field-0.0) _ c.from_residual-in_err-bytes.ensures.1 (λ e is h place bad. absurd (disk_no_place c.in_err-bytes.field-0.0 e place is bad))

pub returns-in_err-end-clause-place : goal.returns-in_err-end-clause-place
returns-in_err-end-clause-place g c = on_if_err _ (λ e. e ≡ c.in_err-end.field-0.0) _ c.from_residual-in_err-end.ensures.1 (λ e is h place bad honest stands sound.
    let ran = c.in_ok-settle.ensures.stands h stands sound in
    let bytes = c.deref.ensures.value ∙ c.in_ok-bytes.ensures.bytes honest _ ran.stands_for ∙ ran.ends.1 in
    subst (IsBadAt g.T.Item.spelled place) bytes (c.in_err-end.ensures.place place (sym is ∙ bad)))

pub returns-in_err-shorten-clause-place : goal.returns-in_err-shorten-clause-place
returns-in_err-shorten-clause-place g c = on_if_err _ (λ e. e ≡ open_fault c.in_err-shorten.field-0.0) _ c.from_residual-in_err-shorten.ensures.1 (λ e is h place bad. absurd (disk_no_place c.in_err-shorten.field-0.0 e place is bad))
