-- Why two files were not opened as the journal of a centre.
use Rattle.journal_pair.specs.Faults.{IsBadPair}
use Rattle.pair_centre.specs.declared.faults.CentreFault.{CentreFault}
use Rattle.pair_centre.specs.declared.faults.CentreFault.TheVariants.{Pair, BadCheckpoint, BadAsk}

-- the files are not those of a centre with these numbers
abbrev pub IsBadCentre : CentreFault → Type 0
IsBadCentre (Pair why) = IsBadPair why
IsBadCentre BadCheckpoint = Unit {0}
IsBadCentre (BadAsk place) = Unit {0}
