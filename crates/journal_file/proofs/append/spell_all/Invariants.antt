use Rattle.std.proofs.Common.{◌≡◌, take}
use Rattle.journal_file.specs.Journal.{opened}
use Rattle.journal_file.proofs.append.spell_all.Given as goal

abbrev pub invariant-loop-item : goal.invariant-loop-item
invariant-loop-item g l = l.out.items ≡ opened g.T.Item.spelled (take l.item-index l.items)
