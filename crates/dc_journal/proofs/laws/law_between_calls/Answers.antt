use Rattle.std.proofs.Common.{refl}
use Rattle.journal_disk.specs.Disk.{seen}
use Rattle.journal_file.proofs.Items.{at_file}
use Rattle.journal_asks.specs.Asks.{spelled}
use Rattle.dc_journal.specs.Open.{end_of}
use Rattle.dc_journal.proofs.Keeping.{between}
use Rattle.dc_journal.proofs.laws.law_between_calls.Goals as goal

pub returns-clause-crash : goal.returns-clause-crash
returns-clause-crash g c = λ h trail file is left. between c.args._j.now h trail file is left

pub returns-clause-parted : goal.returns-clause-parted
returns-clause-parted g c = λ h trail is. ((is.items, (is.asks, at_file spelled (end_of c.args._j.now) h is.items (seen h) is.file refl)), is.file.settled.sound)
