use Rattle.std.proofs.Common.{◌≡◌, ◌+◌, [], ◌∷◌, ◌++◌, List, take, reverse, sym, ◌∙◌, ap, subst}
use Rattle.std.proofs.lemmas.List.{take_more}
use Rattle.journal_disk.specs.declared.disk.Moment.{Moment}
use Rattle.journal_disk.specs.Disk.{MayLeave}
use Rattle.journal_disk.proofs.Steps.{image_on}
use Rattle.journal_disk.proofs.memory.MemoryDisk.after_crash.Goals as goal

pub loop-moment-preserved : goal.loop-moment-preserved
loop-moment-preserved c =
    let xs : List Moment = take c.args.moments c.deref.result.now in
    let i = c.loop-moment.moment-index in
    let m = c.moment-item.result in
    let more : take (i + 1) xs ≡ take i xs ++ m ∷ [] = take_more xs i m c.loop-moment-test.true ∙ ap (λ y. take i xs ++ y ∷ []) (sym c.moment-item.is) in
    subst (λ l. MayLeave (reverse l) c.advance.new.image.items) (sym more) (image_on (take i xs) m c.loop-moment.image.items c.advance.new.image.items c.loop-moment.invariant c.in_ok-advance.ensures)
