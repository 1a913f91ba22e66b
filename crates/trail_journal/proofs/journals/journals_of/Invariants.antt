use Rattle.std.proofs.Common.{map, take}
use Rattle.journal_disk.specs.Steady.{steady_bytes}
use Rattle.trail_journal.specs.Journals.{AreJournals, centre_of}
use Rattle.trail_journal.proofs.journals.journals_of.Given as goal

abbrev pub invariant-loop-before : goal.invariant-loop-before
invariant-loop-before l = AreJournals (centre_of l.book l.limit) 1 (take l.before l.book.trails) (map steady_bytes l.journals.disks.items) l.journals.text.items
