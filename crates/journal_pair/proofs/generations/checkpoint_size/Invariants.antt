use Rattle.std.proofs.Common.{◌≡◌, take, map}
use Rattle.journal_file.specs.Journal.{opened}
use Rattle.journal_pair.specs.declared.entry.Entry.TheVariants.{Kept}
use Rattle.journal_pair.specs.Entries.{entry_bytes}
use Rattle.journal_pair.proofs.generations.checkpoint_size.Given as goal

abbrev pub invariant-loop-item : goal.invariant-loop-item
invariant-loop-item g l = l.out.items ≡ opened (entry_bytes g.T.Item.spelled) (map Kept (take l.item-index l.checkpoint))
