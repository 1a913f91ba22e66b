-- The taps of a phase, opened before it and closed behind it.
use Rattle.std.specs.Prelude.{◌≡◌, ◌⊎◌, ℕ, map, length, take, drop, replicate, slice_get, All, List, [], ◌∷◌, ◌++◌, Some}
use Rattle.std.specs.List.{AllZip, filter_map}
use Rattle.std.specs.Global.{Vec}
use Rattle.script_core.specs.declared.taps.TapState.{TapState}
use Rattle.read_tap.specs.Shows.{IsFront, ShowsView, FeederView, shows_in, width, last_of}
use Rattle.thread_run.specs.declared.tapping.FirstReaders.{FirstReaders}

-- ---- rows of readers

-- the readers of each row
abbrev pub row_lists : List (Vec ShowsView) → List (List ShowsView)
row_lists rows = map (λ (row : Vec ShowsView). row.items) rows

-- the rows, each with its reader of some behind, as far as these go
abbrev pub widened : List (List ShowsView) → List ShowsView → List (List ShowsView)
widened [] readers = []
widened (row ∷ rows) [] = row ∷ rows
widened (row ∷ rows) (reader ∷ readers) = (row ++ reader ∷ []) ∷ widened rows readers

-- the first reader of each row
abbrev pub firsts : List (List ShowsView) → List ShowsView
firsts rows = filter_map (λ (row : List ShowsView). slice_get row 0) rows

-- the rows without it
abbrev pub rests : List (List ShowsView) → List (List ShowsView)
rests rows = map (λ (row : List ShowsView). drop 1 row) rows

-- the rows were cut into both
pub record IsFirstOf (rows : List (List ShowsView)) (parts : FirstReaders) : Type 0 where
  pub first : parts.first.items ≡ firsts rows
  pub rest : row_lists parts.rest.items ≡ rests rows

-- a row more was
pub record HasRow (old : FirstReaders) (row : List ShowsView) (new : FirstReaders) : Type 0 where
  pub first : new.first.items ≡ old.first.items ++ firsts (row ∷ [])
  pub rest : row_lists new.rest.items ≡ row_lists old.rest.items ++ drop 1 row ∷ []

-- ---- before the phase

-- a tap shows a state of each of its objects
abbrev pub IsWide : TapState → Type 0
IsWide tap = length tap.show.states ≡ length tap.objects

-- the feeder of a tap that was opened with what it shows
pub record IsOpened (tap : TapState) (feeder : FeederView) : Type 0 where
  pub objects : feeder.objects ≡ tap.objects
  pub wide : width feeder.table ≡ length tap.objects
  pub shows : feeder.shows ≡ tap.show ∷ []

-- a reader of the tap of a feeder that has seen its shows
abbrev pub reader_of : FeederView → ShowsView
reader_of feeder = shows_in feeder.table feeder.shows

-- these taps were opened, each with a reader for each of so many threads
pub record AreOpened (taps : List TapState) (threads : ℕ) (feeders : List FeederView) (rows : List (Vec ShowsView)) : Type 0 where
  pub feeders_are : AllZip IsOpened taps feeders
  pub rows_are : row_lists rows ≡ replicate threads (map reader_of feeders)

-- the taps of the first n centres were opened, or none where none of them has an object
pub record AreOpenFor (n threads : ℕ) (taps : List TapState) (feeders : List FeederView) (rows : List (Vec ShowsView)) : Type 0 where
  pub those : List TapState
  pub opened : AreOpened those threads feeders rows
  pub all : (those ≡ take n taps) ⊎ ((those ≡ []) × All (λ (tap : TapState). tap.objects ≡ []) (take n taps))

-- ---- behind it

-- a reader of the tap of a feeder
abbrev pub ReadsOf : FeederView → ShowsView → Type 0
ReadsOf feeder reader = reader.table ≡ feeder.table

-- readers of the taps of these feeders, one of each
abbrev pub AreReadsOf : List FeederView → List ShowsView → Type 0
AreReadsOf feeders row = AllZip (λ (reader : ShowsView) (feeder : FeederView). ReadsOf feeder reader) row feeders

-- they have seen the first shows of each
abbrev pub AreFrontsOf : List FeederView → List ShowsView → Type 0
AreFrontsOf feeders row = AllZip (λ (reader : ShowsView) (feeder : FeederView). IsFront reader.shows feeder.shows) row feeders

-- a tap behind the phase: it shows the last show of its feeder, of whose shows each reader has seen the first ones
pub record IsClosed (tap : TapState) (feeder : FeederView) (readers : List ShowsView) (later : TapState) : Type 0 where
  pub objects : later.objects ≡ tap.objects
  pub last : last_of feeder.shows ≡ Some later.show
  pub wide : length later.show.states ≡ width feeder.table
  pub fronts : All (λ (reader : ShowsView). IsFront reader.shows feeder.shows) readers

-- the taps behind the phase, in order: those with a feeder were closed with the readers that the rows have of them, and the
-- others stay
abbrev pub HaveClosed : List TapState → List FeederView → List (List ShowsView) → List TapState → Type 0
HaveClosed [] feeders rows [] = Unit {0}
HaveClosed [] feeders rows (later ∷ all) = ⊥
HaveClosed (tap ∷ taps) feeders rows [] = ⊥
HaveClosed (tap ∷ taps) [] rows (later ∷ all) = (later ≡ tap) × HaveClosed taps [] rows all
HaveClosed (tap ∷ taps) (feeder ∷ feeders) rows (later ∷ all) = IsClosed tap feeder (firsts rows) later × HaveClosed taps feeders (rests rows) all

-- the next one was closed, where a feeder is left, and else stays; those behind it may be closed with what is left then
pub record HasClosedNext (tap : TapState) (feeders : List FeederView) (rows : List (List ShowsView)) (later : TapState) (left : List FeederView) (rest : List (List ShowsView)) : Type 0 where
  pub reads : All (AreReadsOf left) rest
  pub closed : (taps all : List TapState) → HaveClosed taps left rest all → HaveClosed (tap ∷ taps) feeders rows (later ∷ all)
