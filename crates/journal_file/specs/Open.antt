-- What contracts see of a journal that is open.
use Rattle.std.specs.Prelude.{ℕ, Bool}
use Rattle.journal_disk.specs.declared.disk.Disk.{Ghosts}
use Rattle.journal_file.specs.declared.journal.Journal.{Journal}

module _ {D : Type 0} {disk : Ghosts D} where
  -- its disk
  abbrev pub disk_of : Journal D disk → D
  disk_of j = j.disk

  -- the place of the closed gate at which its file ends
  abbrev pub end_of : Journal D disk → ℕ
  end_of j = j.end

  -- whether it takes no more items
  abbrev pub is_shut : Journal D disk → Bool
  is_shut j = j.shut
