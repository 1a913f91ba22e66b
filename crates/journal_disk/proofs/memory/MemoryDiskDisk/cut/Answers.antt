use Rattle.std.proofs.Common.{◌≡◌, ◌≤◌, length, IfOk, sym, ◌∙◌, subst}
use Rattle.journal_disk.specs.declared.disk.Step.TheVariants.{Cut}
use Rattle.journal_disk.specs.Disk.{seen, Shortens}
use Rattle.journal_disk.specs.Memory.{memory_stands}
use Rattle.journal_disk.proofs.Steps.{goes_by}
use Rattle.journal_disk.proofs.memory.MemoryDiskDisk.cut.Goals as goal

pub returns-clause-stands : goal.returns-clause-stands
returns-clause-stands c = λ h stands.
    let now = c.is_failing-fails.ensures.stands h stands in
    let bytes : c.deref.result.now ≡ seen h = c.deref.ensures.value ∙ sym now.1 in
    let to = c.args.to in
    goes_by (memory_stands c.finish.new.self) h (Cut to) c.finish.result c.front-next.result (λ file. to ≤ length (seen h) → Shortens to (seen h) file)
    (subst (λ b. IfOk c.front-next.result (λ next. to ≤ length b → Shortens to b next.items)) bytes c.front-next.ensures) (c.finish.ensures.stands h now)
