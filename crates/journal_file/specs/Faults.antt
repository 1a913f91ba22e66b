-- Why a journal was not written or opened.
use Rattle.journal_disk.specs.declared.disk.DiskFault.{DiskFault}
use Rattle.journal_disk.specs.declared.disk.DiskFault.TheVariants.{Failed, NoMemory as DiskNoMemory}
use Rattle.journal_file.specs.declared.faults.JournalFault.{JournalFault}
use Rattle.journal_file.specs.declared.faults.JournalFault.TheVariants.{Disk as AppendDisk, NoMemory as AppendNoMemory}
use Rattle.journal_file.specs.declared.faults.OpenFault.{OpenFault}
use Rattle.journal_file.specs.declared.faults.OpenFault.TheVariants.{Disk, NoMemory, Bad}

-- what a fault of the disk makes of an append
abbrev pub append_fault : DiskFault → JournalFault
append_fault Failed = AppendDisk
append_fault DiskNoMemory = AppendNoMemory

-- what it makes of an opening
abbrev pub open_fault : DiskFault → OpenFault
open_fault Failed = Disk
open_fault DiskNoMemory = NoMemory

-- a gate is bad
abbrev pub IsBad : OpenFault → Type 0
IsBad (Bad place) = Unit {0}
IsBad Disk = ⊥
IsBad NoMemory = ⊥
