-- Why two files were not opened, in their bytes.
use Rattle.std.specs.Prelude.{ℕ, List}
use Rattle.journal_file.specs.declared.faults.OpenFault.{OpenFault}
use Rattle.journal_file.specs.declared.faults.OpenFault.TheVariants.{Disk as FileDisk, NoMemory as FileNoMemory, Bad}
use Rattle.journal_file.specs.Journal.{IsBadAt}
use Rattle.journal_pair.specs.declared.entry.Entry.{Entry}
use Rattle.journal_pair.specs.declared.faults.PairFault.{PairFault}
use Rattle.journal_pair.specs.declared.faults.PairFault.TheVariants.{File}
use Rattle.journal_pair.specs.Entries.{entry_bytes}
use Rattle.journal_pair.specs.Choices.{at_side, HasFault}
use Rattle.journal_pair.specs.Files.{HasEntries}

module _ {T : Type 0} (spelled : T → List ℕ) where
  -- the first bad gate of a file stands at the place that is told
  abbrev pub HasBadGate : OpenFault → List ℕ → Type 0
  HasBadGate (Bad place) file = IsBadAt (entry_bytes spelled) place file
  HasBadGate FileDisk file = Unit {0}
  HasBadGate FileNoMemory file = Unit {0}

  -- a file has a bad gate, or both have entries with this fault
  abbrev pub HasCauseIn : PairFault → List ℕ → List ℕ → Type 0
  HasCauseIn (File side why) x y = HasBadGate why (at_side side x y)
  HasCauseIn fault x y = (xs : List (Entry T)) × ((ys : List (Entry T)) × ((HasEntries spelled xs x) × ((HasEntries spelled ys y) × (HasFault fault xs ys))))
