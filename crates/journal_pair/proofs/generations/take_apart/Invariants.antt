use Rattle.std.proofs.Common.{◌≡◌, ◌++◌}
use Rattle.journal_pair.specs.Entries.{generation}
use Rattle.journal_pair.proofs.generations.take_apart.Given as goal

abbrev pub invariant-entries : goal.invariant-entries
invariant-entries g l = l.fn.entries.items ≡ generation l.mark l.checkpoint.items l.behind.items ++ l.entry-iterator.rest.items
