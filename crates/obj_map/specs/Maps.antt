-- The state of a map, and what it is after its operations.
use Rattle.std.specs.Prelude.{◌≡◌, ℕ, List, Option, Some, option_map, filter_map, false}
use Rattle.std.specs.Coded.{Coded}
use Rattle.std.specs.FinMap.{code, empty}
use Rattle.std.specs.Ordering.{is_lt}
use Rattle.ids_core.specs.Orders.{mark_cmp}
use Rattle.ids_core.specs.declared.ids.OpId.{OpId}
use Rattle.ids_core.specs.declared.ids.Mark.{Mark}
use Rattle.tally_core.specs.Places.{place_code}
use Rattle.tally_core.specs.Cells.{Tallied, cell_code}
use Rattle.tally_core.specs.Changes.{Change, IsTallyOf, IsLiveIn, step as changed}
use Rattle.tally_core.specs.Live.{live_names, kept_at}
use Rattle.obj_map.specs.declared.put.Put.{Put}
use Rattle.obj_map.specs.declared.map.MapOp.{MapOp}
use Rattle.obj_map.specs.Puts.{put_code, greatest}

-- tallies of puts, which keep their rank and word
abbrev pub Map : Type 0
Map = Tallied Put

-- a put raises the tally of its own identifier, and each operation lowers those that it is over
abbrev pub does : (Mark × MapOp) → Change Put
does op = record { name = op.1.key; add = option_map (λ word. record { rank = op.0.rank; word = word }) op.1.word; over = op.1.over }

-- no tally
abbrev pub start : Map
start = empty

-- the map after one more operation
abbrev pub step : Map → (Mark × MapOp) → Map
step = changed does

-- Each tally is plus one for each put of the identifier, minus one for each operation on the key that is over it,
-- with the rank and word of its put where the tally is 1 or more.
abbrev pub IsStateOf : List (Mark × MapOp) → Map → Type 0
IsStateOf = IsTallyOf does

-- the word of the greatest live put of a key
abbrev pub word_at : Map → List ℕ → Option (List ℕ)
word_at m key = greatest (kept_at m key)

-- keys with their words
abbrev pub pairs_of : Map → List (List ℕ) → List (List ℕ × List ℕ)
pairs_of m keys = filter_map (λ key. option_map (λ word. (key, word)) (word_at m key)) keys

-- the keys with a live put and their words
abbrev pub pairs : Map → List (List ℕ × List ℕ)
pairs m = pairs_of m (live_names m)

-- the word is that of a live put of the key, and no other live put of the key has a greater mark
pub record IsGreatestPut (ops : List (Mark × MapOp)) (key word : List ℕ) : Type 0 where
  pub id : OpId
  pub live : IsLiveIn does ops key id
  pub is : live.op.1.word ≡ Some word
  pub above : (other : OpId) (l : IsLiveIn does ops key other) → is_lt (mark_cmp live.op.0 l.op.0) ≡ false

-- a map is stored as the entries of its tallies
abbrev pub map_code : Coded Map
map_code = code place_code (cell_code put_code)
