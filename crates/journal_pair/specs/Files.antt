-- What two files stand for, and how two disks go on by calls.
use Rattle.std.specs.Prelude.{◌≡◌, ◌+◌, ◌⊎◌, ℕ, List, [], length}
use Rattle.journal_disk.specs.declared.disk.Moment.{Moment}
use Rattle.journal_disk.specs.Disk.{MayLeave, Ran}
use Rattle.journal_file.specs.Journal.{FileOf, Found, IsAt, opened}
use Rattle.journal_pair.specs.declared.mark.Mark.{Mark}
use Rattle.journal_pair.specs.declared.entry.Entry.{Entry}
use Rattle.journal_pair.specs.Entries.{entry_bytes, generation, IsBefore, ArePair}

-- one disk goes on by some calls while the other one stays as it is: at each moment of them a crash leaves on the two
-- what has P, and Q holds at their end
abbrev pub RanBeside : (List Moment → Type 0) → List Moment → List Moment → (List ℕ → List ℕ → Type 0) → (List Moment → Type 0) → Type 0
RanBeside stands h other P Q = Ran stands h (λ x. (y : List ℕ) → MayLeave other y → P x y) Q

-- one disk goes on by some calls, and then the other
abbrev pub RanBoth : (List Moment → Type 0) → (List Moment → Type 0) → List Moment → List Moment → (List ℕ → List ℕ → Type 0) → (List Moment → List Moment → Type 0) → Type 0
RanBoth first second h k P Q = RanBeside first h k P (λ l. RanBeside second k l (λ y x. P x y) (λ m. Q l m))

module _ {T : Type 0} (spelled : T → List ℕ) where
  -- the file stands for these entries
  abbrev pub HasEntries : List (Entry T) → List ℕ → Type 0
  HasEntries xs file = FileOf (entry_bytes spelled) xs file

  -- how many bytes entries take
  abbrev pub size_of : List (Entry T) → ℕ
  size_of xs = length (opened (entry_bytes spelled) xs)

  -- two files stand for a checkpoint and the items behind it
  abbrev pub PairOf : List T → List T → List ℕ → List ℕ → Type 0
  PairOf checkpoint behind x y = (xs : List (Entry T)) × ((ys : List (Entry T)) × ((ArePair checkpoint behind xs ys) × ((HasEntries xs x) × (HasEntries ys y))))

  -- they stand for the one state or for the other
  abbrev pub IsEitherPair : List T → List T → List T → List T → List ℕ → List ℕ → Type 0
  IsEitherPair checkpoint behind next later x y = (PairOf checkpoint behind x y) ⊎ (PairOf next later x y)

  -- each file is one that a crash might have left before, or stands for these entries
  abbrev pub FoundBoth : List (Entry T) → List (Entry T) → List Moment → List Moment → List ℕ → List ℕ → Type 0
  FoundBoth xs ys h k x y = (Found (entry_bytes spelled) xs h x) × (Found (entry_bytes spelled) ys k y)

  -- the histories end with two settled files: the live one has the generation of this number with this checkpoint and
  -- these items behind, and ends at this place; the other one has one before it or none
  pub record AreAt (mark : Mark) (end other_end size : ℕ) (h k : List Moment) (checkpoint behind : List T) : Type 0 where
    pub earlier : List (Entry T)
    pub live : IsAt (entry_bytes spelled) end h (generation mark checkpoint behind)
    pub other : IsAt (entry_bytes spelled) other_end k earlier
    pub before : IsBefore mark earlier
    pub size_is : size ≡ size_of (generation mark checkpoint []) + 1
