use Rattle.std.proofs.Common.{◌≡◌, ◌++◌, map}
use Rattle.journal_pair.specs.declared.entry.Entry.TheVariants.{Behind}
use Rattle.journal_pair.proofs.generations.behind_all.Given as goal

abbrev pub invariant-items : goal.invariant-items
invariant-items g l = l.entries.items ++ map Behind l.item-iterator.rest.items ≡ map Behind l.fn.items.items
