-- The history of a file of the operating system.
use Rattle.std.specs.Prelude.{List}
use Rattle.journal_disk.specs.declared.disk.Moment.{Moment}
use Rattle.file_disk.specs.declared.file.FileDisk.{FileDisk}
use Rattle.file_disk.specs.Events.{history}

-- the calls that were made on it, as a disk's history
abbrev pub history_of : FileDisk → List Moment
history_of f = history f.log.events
