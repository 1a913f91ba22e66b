-- For which trails a centre with its journal in two files stands, and how long its live file may be.
use Rattle.std.specs.Prelude.{◌<◌, ◌≤◌, ◌*◌, ◌⊎◌, ℕ, List}
use Rattle.journal_disk.specs.declared.disk.Disk.{Ghosts}
use Rattle.journal_disk.specs.declared.disk.Moment.{Moment}
use Rattle.journal_pair.specs.declared.pair.TheConstants.{FLOOR}
use Rattle.dc_talk.specs.Entries.{Entry}
use Rattle.pair_centre.specs.declared.pair_centre.PairCentre.{PairCentre}
use Rattle.pair_centre.specs.Open.{live_disk, other_disk, live_size, checkpoint_size, IsPairOf}

module _ {D : Type 0} {disk : Ghosts D} where
  -- its two disks stand for calls after which it stands for the trail
  pub record HasTrail (stands : D → List Moment → Type 0) (p : PairCentre D disk) (trail : List Entry) : Type 0 where
    pub live : List Moment
    pub other : List Moment
    pub live_stands : stands (live_disk p) live
    pub other_stands : stands (other_disk p) other
    pub is : IsPairOf p live other trail

  -- one of its two disks has failed
  abbrev pub HasFailed : (D → ℕ) → PairCentre D disk → Type 0
  HasFailed faults p = (0 < faults (live_disk p)) ⊎ (0 < faults (other_disk p))

  -- its live file has at most FLOOR bytes, or is at most twice as long as it was with its checkpoint alone
  abbrev pub IsSmall : PairCentre D disk → Type 0
  IsSmall p = (live_size p ≤ FLOOR) ⊎ (live_size p ≤ 2 * checkpoint_size p)
