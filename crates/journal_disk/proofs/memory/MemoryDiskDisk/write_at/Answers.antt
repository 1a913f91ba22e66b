use Rattle.std.proofs.Common.{◌≡◌, ◌≤◌, length, IfOk, sym, ◌∙◌, subst}
use Rattle.journal_disk.specs.declared.disk.Step.TheVariants.{Wrote}
use Rattle.journal_disk.specs.Disk.{seen, Holds}
use Rattle.journal_disk.specs.Memory.{memory_stands}
use Rattle.journal_disk.proofs.Steps.{goes_by}
use Rattle.journal_disk.proofs.memory.MemoryDiskDisk.write_at.Goals as goal

pub returns-clause-stands : goal.returns-clause-stands
returns-clause-stands c = λ h stands.
    let now = c.is_failing-fails.ensures.stands h stands in
    let bytes : c.deref.result.now ≡ seen h = c.deref.ensures.value ∙ sym now.1 in
    let at = c.args.at in
    let piece = c.args.piece.now in
    goes_by (memory_stands c.finish.new.self) h (Wrote at (length piece)) c.finish.result c.with_piece-next.result (λ file. at ≤ length (seen h) → Holds (seen h) at piece file)
    (subst (λ b. IfOk c.with_piece-next.result (λ next. at ≤ length b → Holds b at piece next.items)) bytes c.with_piece-next.ensures) (c.finish.ensures.stands h now)
