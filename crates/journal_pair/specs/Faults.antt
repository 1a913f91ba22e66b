-- Why two files were not opened.
use Rattle.journal_file.specs.Faults.{IsBad}
use Rattle.journal_pair.specs.declared.faults.PairFault.{PairFault}
use Rattle.journal_pair.specs.declared.faults.PairFault.TheVariants.{File, Mixed, Empty, Same, NoMemory}

-- the files are no pair
abbrev pub IsBadPair : PairFault → Type 0
IsBadPair (File side why) = IsBad why
IsBadPair (Mixed side) = Unit {0}
IsBadPair Empty = Unit {0}
IsBadPair Same = Unit {0}
IsBadPair NoMemory = ⊥
