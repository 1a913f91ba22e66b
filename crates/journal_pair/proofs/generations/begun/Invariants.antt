use Rattle.std.proofs.Common.{◌≡◌, ◌∷◌, ◌++◌, map}
use Rattle.journal_pair.specs.declared.entry.Entry.TheVariants.{Generation, Kept}
use Rattle.journal_pair.proofs.generations.begun.Given as goal

abbrev pub invariant-items : goal.invariant-items
invariant-items g l = l.entries.items ++ map Kept l.item-iterator.rest.items ≡ Generation l.fn.mark ∷ map Kept l.fn.checkpoint.items
