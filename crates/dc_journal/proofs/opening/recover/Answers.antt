use Rattle.std.proofs.Common.{◌≡◌, ℕ, List, sym, ◌∙◌, subst}
use Rattle.journal_disk.specs.Disk.{seen}
use Rattle.journal_file.specs.declared.faults.OpenFault.{OpenFault}
use Rattle.journal_file.specs.Faults.{IsBad, open_fault}
use Rattle.journal_file.proofs.Recovering.{disk_not_bad, on_if_err}
use Rattle.dc_talk.specs.declared.settings.Settings.{Settings}
use Rattle.dc_talk.specs.Entries.{Entry}
use Rattle.dc_talk.specs.Answers.{History}
use Rattle.dc_journal.specs.Files.{numbers, IsFileOf}
use Rattle.dc_journal.proofs.Reading.{only_read}
use Rattle.dc_journal.proofs.opening.recover.Goals as goal

-- no bad gate is told of a file of a trail
not_bad : (s now : Settings) (bytes file : List ℕ) (e found : OpenFault) → now ≡ s → bytes ≡ file → e ≡ found → ((trail : List Entry) → History now trail → IsFileOf now trail bytes → IsBad found → ⊥) → (trail : List Entry) → History s trail → IsFileOf s trail file → IsBad e → ⊥
not_bad s now bytes file e found same are is none trail history of bad =
    none trail (subst (λ (g : Settings). History g trail) (sym same) history) (subst (λ (l : List ℕ). IsFileOf now trail l) (sym are) (subst (λ (g : Settings). IsFileOf g trail file) (sym same) of)) (subst IsBad is bad)

pub returns-in_err-settle-clause-err : goal.returns-in_err-settle-clause-err
returns-in_err-settle-clause-err g c = on_if_err _ (λ e. e ≡ open_fault c.in_err-settle.field-0.0) _ c.from_residual.ensures.1 (λ e is h trail honest stands sound history file.
    only_read (numbers c.args.me c.args.n c.args.k c.args.limit) trail h (g.D.Disk.stands c.settle.new.disk) (g.D.Disk.stands c.settle.new.disk) _ _ file (λ l s. s) (λ l q. disk_not_bad c.in_err-settle.field-0.0 e is) (c.in_err-settle.ensures.stands h stands sound))

pub returns-in_err-bytes-clause-err : goal.returns-in_err-bytes-clause-err
returns-in_err-bytes-clause-err g c = on_if_err _ (λ e. e ≡ open_fault c.in_err-bytes.field-0.0) _ c.from_residual-in_err-bytes.ensures.1 (λ e is h trail honest stands sound history file.
    only_read (numbers c.args.me c.args.n c.args.k c.args.limit) trail h (g.D.Disk.stands c.settle.new.disk) (g.D.Disk.stands c.read_all.new.disk) _ _ file c.in_err-bytes.ensures.stands (λ l q. disk_not_bad c.in_err-bytes.field-0.0 e is) (c.in_ok-settle.ensures.stands h stands sound))

pub returns-in_default-clause-err : goal.returns-in_default-clause-err
returns-in_default-clause-err g c = λ h trail honest stands sound history file.
    only_read (numbers c.args.me c.args.n c.args.k c.args.limit) trail h (g.D.Disk.stands c.settle.new.disk) (g.D.Disk.stands c.read_all.new.disk) _ _ file c.in_ok-bytes.ensures.stands (λ l q bad. bad) (c.in_ok-settle.ensures.stands h stands sound)

pub returns-in_err-centre-clause-err : goal.returns-in_err-centre-clause-err
returns-in_err-centre-clause-err g c = on_if_err _ (λ e. e ≡ c.in_err-centre.field-0.0) _ c.from_residual-in_err-centre.ensures.1 (λ e is h trail honest stands sound history file.
    let s = numbers c.args.me c.args.n c.args.k c.args.limit in
    let ran = c.in_ok-settle.ensures.stands h stands sound in
    let bytes = c.deref.ensures.value ∙ c.in_ok-bytes.ensures.bytes honest _ ran.stands_for ∙ ran.ends.1 in
    only_read s trail h (g.D.Disk.stands c.settle.new.disk) (g.D.Disk.stands c.read_all.new.disk) _ _ file c.in_ok-bytes.ensures.stands
    (λ l q. not_bad s c.in-Ok.centre.settings c.deref.result.now (seen h) e c.in_err-centre.field-0.0 c.in-Ok.ensures.settings bytes is c.in_err-centre.ensures.bad trail history file) ran)
