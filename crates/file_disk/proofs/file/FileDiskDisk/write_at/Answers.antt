use Rattle.std.proofs.Common.{◌≡◌, ◌==◌, ◌≤◌, ◌∷◌, List, Bool, cond, length, is_ok, refl, sym, ◌∙◌, ap, subst}
use Rattle.journal_disk.specs.declared.disk.Step.TheVariants.{Wrote}
use Rattle.journal_disk.specs.declared.disk.Moment.{Moment}
use Rattle.journal_disk.specs.Disk.{seen, moment, Goes, Holds}
use Rattle.file_disk.specs.Events.{history, overlay}
use Rattle.file_disk.proofs.Steps.{goes}
use Rattle.file_disk.proofs.file.FileDiskDisk.write_at.Goals as goal

pub returns-clause-stands : goal.returns-clause-stands
returns-clause-stands c = λ h same.
    let past = history c.args.self.now.log.events in
    let log = c.answer.new.self.log.events in
    let at = c.args.at in
    let piece = c.args.piece.now in
    let ok : (c.flag.result == 1) ≡ is_ok c.answer.result = c.flag.ensures ∙ sym c.answer.ensures.ok in
    let is : history log ≡ moment (Wrote at (length piece)) (cond (is_ok c.answer.result) (overlay (seen past) at piece) (seen past)) ∷ past =
    ap history c.answer.ensures.log ∙ ap history c.note.ensures ∙ ap (λ (b : Bool). moment (Wrote at (length piece)) (cond b (overlay (seen past) at piece) (seen past)) ∷ past) ok in
    let went = goes (history log) (Wrote at (length piece)) c.answer.result past (λ file. at ≤ length (seen past) → Holds (seen past) at piece file) (overlay (seen past) at piece) (seen past) is (λ _. refl) in
    subst (λ (l : List Moment). Goes (λ (k : List Moment). k ≡ history log) (Wrote at (length piece)) c.answer.result l (λ file. at ≤ length (seen l) → Holds (seen l) at piece file)) (sym same) went
