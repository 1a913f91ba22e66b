use Rattle.std.proofs.Common.{◌≡◌, ◌==◌, ◌≤◌, ◌∷◌, List, Bool, cond, length, take, is_ok, refl, sym, ◌∙◌, ap, subst}
use Rattle.journal_disk.specs.declared.disk.Step.TheVariants.{Cut}
use Rattle.journal_disk.specs.declared.disk.Moment.{Moment}
use Rattle.journal_disk.specs.Disk.{seen, moment, Goes, Shortens}
use Rattle.file_disk.specs.Events.{history}
use Rattle.file_disk.proofs.Steps.{goes}
use Rattle.file_disk.proofs.file.FileDiskDisk.cut.Goals as goal

pub returns-clause-stands : goal.returns-clause-stands
returns-clause-stands c = λ h same.
    let past = history c.args.self.now.log.events in
    let log = c.answer.new.self.log.events in
    let to = c.args.to in
    let ok : (c.flag.result == 1) ≡ is_ok c.answer.result = c.flag.ensures ∙ sym c.answer.ensures.ok in
    let is : history log ≡ moment (Cut to) (cond (is_ok c.answer.result) (take to (seen past)) (seen past)) ∷ past =
    ap history c.answer.ensures.log ∙ ap history c.note.ensures ∙ ap (λ (b : Bool). moment (Cut to) (cond b (take to (seen past)) (seen past)) ∷ past) ok in
    let went = goes (history log) (Cut to) c.answer.result past (λ file. to ≤ length (seen past) → Shortens to (seen past) file) (take to (seen past)) (seen past) is (λ _. refl) in
    subst (λ (l : List Moment). Goes (λ (k : List Moment). k ≡ history log) (Cut to) c.answer.result l (λ file. to ≤ length (seen l) → Shortens to (seen l) file)) (sym same) went
