use Rattle.std.proofs.Common.{refl}
use Rattle.journal_disk.specs.Disk.{seen}
use Rattle.journal_file.proofs.Items.{at_file}
use Rattle.journal_file.proofs.laws.law_between_calls.Goals as goal

pub returns-clause-crash : goal.returns-clause-crash
returns-clause-crash g c = λ end h xs file at left. at_file g.T.Item.spelled end h xs file at (at.settled.only file left)

pub returns-clause-parted : goal.returns-clause-parted
returns-clause-parted g c = λ end h xs at. (at_file g.T.Item.spelled end h xs (seen h) at refl, at.settled.sound)
