-- What contracts see of a pair.
use Rattle.std.specs.Prelude.{◌≡◌, ◌+◌, ◌||◌, ℕ, Bool, List}
use Rattle.journal_disk.specs.declared.disk.Moment.{Moment}
use Rattle.journal_disk.specs.declared.disk.Disk.{Ghosts}
use Rattle.journal_file.specs.declared.journal.Journal.{Journal}
use Rattle.journal_file.specs.Open.{disk_of, end_of}
use Rattle.journal_file.specs.Open as journal
use Rattle.journal_pair.specs.declared.mark.Mark.{Mark}
use Rattle.journal_pair.specs.declared.pair.Pair.{Pair}
use Rattle.journal_pair.specs.declared.faults.Side.{Side}
use Rattle.journal_pair.specs.Choices.{at_side, beside}
use Rattle.journal_pair.specs.Files.{AreAt}

module _ {D : Type 0} {disk : Ghosts D} where
  -- the disk of its live file
  abbrev pub live_disk : Pair D disk → D
  live_disk p = disk_of p.live

  -- the disk of the other file
  abbrev pub other_disk : Pair D disk → D
  other_disk p = disk_of p.other

  -- how long its live file is
  abbrev pub live_size : Pair D disk → ℕ
  live_size p = end_of p.live + 1

  -- how long it was with its checkpoint alone
  abbrev pub checkpoint_size : Pair D disk → ℕ
  checkpoint_size p = p.size

  -- whether it takes no more items
  abbrev pub is_shut : Pair D disk → Bool
  is_shut p = journal.is_shut p.live || journal.is_shut p.other

  -- at the end of these histories of its live disk and of the other it has this checkpoint and these items behind it
  abbrev pub Has : {T : Type 0} → (T → List ℕ) → Pair D disk → List Moment → List Moment → List T → List T → Type 0
  Has spelled p h k checkpoint behind = AreAt spelled p.mark (end_of p.live) (end_of p.other) p.size h k checkpoint behind

  -- the live file is that of this side, with this generation and this length of its checkpoint
  pub record IsSeated (side : Side) (a b : Journal D disk) (mark : Mark) (size : ℕ) (p : Pair D disk) : Type 0 where
    pub live : p.live ≡ at_side side a b
    pub other : p.other ≡ beside side a b
    pub mark_is : p.mark ≡ mark
    pub size_is : p.size ≡ size
