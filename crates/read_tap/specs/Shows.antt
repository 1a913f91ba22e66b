-- The shows of a tap: what its readers see, one after another.
use Rattle.std.specs.Prelude.{◌≡◌, ℕ, ◌-◌, ◌<◌, List, ◌++◌, length, slice_get, Option, Some}
use Rattle.list_core.specs.Members.{In}
use Rattle.boxcar.specs.Table.{Shelves, Where, Shows as IsIn, first}
use Rattle.ids_core.specs.declared.object.ObjectId.{ObjectId}
use Rattle.tx_core.specs.declared.state.State.{State}
use Rattle.tx_core.specs.declared.state.Value.{Value}
use Rattle.tx_core.specs.States.{value_of}
use Rattle.script_core.specs.declared.taps.Show.{Show}

-- the first list is a front of the second
pub record IsFront {X : Type 0} (front whole : List X) : Type 0 where
  pub rest : List X
  pub whole_is : whole ≡ front ++ rest

-- the last element of a list
abbrev pub last_of : {X : Type 0} → List X → Option X
last_of xs = slice_get xs (length xs - 1)

-- the vector of a show, with the value of an object, by its place
pub record IsRead (show : Show) (object : ℕ) (vector : List ℕ) (value : Value) : Type 0 where
  pub vector_is : vector ≡ show.vector
  pub state : State
  pub state_is : slice_get show.states object ≡ Some state
  pub value_is : value ≡ value_of state

-- the vector of the last of these shows, with the value of an object, by its place
pub record IsLast (shows : List Show) (object : ℕ) (vector : List ℕ) (value : Value) : Type 0 where
  pub show : Show
  pub last : last_of shows ≡ Some show
  pub read : IsRead show object vector value

-- ---- where shows stand

-- what is seen of shows: the table in which they stand, and the first ones there
pub record ShowsView : Type 0 where
  pub table : Shelves
  pub shows : List Show

-- how many objects the shows of a table have
abbrev pub width : Shelves → ℕ
width table = first table.tag

-- each token is of the table, at its place
pub record ArePlaced (table : Shelves) (tokens : List (Where Show)) : Type 0 where
  pub each : (place : ℕ) (token : Where Show) → slice_get tokens place ≡ Some token → (token.index ≡ place) × IsIn table token

-- the show of a token
abbrev pub show_of : Where Show → Show
show_of token = token.value

-- ---- the two ends of a tap

-- what is seen of a feeder: the table of its tap, its shows, and its objects in order
pub record FeederView : Type 0 where
  pub table : Shelves
  pub shows : List Show
  pub objects : List ObjectId

-- shows in a table, as they are seen
abbrev pub shows_in : Shelves → List Show → ShowsView
shows_in table shows = record { table = table; shows = shows }

-- one of the readers has seen more shows than these
pub record SeesMore (shows : List Show) (readers : List ShowsView) : Type 0 where
  pub reader : ShowsView
  pub there : In reader readers
  pub more : length shows < length reader.shows
