use Rattle.std.proofs.Common.{reverse, take}
use Rattle.journal_disk.specs.Disk.{MayLeave}
use Rattle.journal_disk.proofs.memory.MemoryDisk.after_crash.Given as goal

abbrev pub invariant-loop-moment : goal.invariant-loop-moment
invariant-loop-moment l = MayLeave (reverse (take l.moment-index l.moment-items)) l.image.items
