-- Tallies, each with what its add keeps.
use Rattle.std.specs.Prelude.{ℕ, ℤ, ◌+ℤ◌, pos, negsuc, Bool, cond, ◌&&◌, not, List, [], ◌∷◌, ◌++◌, map, fold, Option, Some, None, is_some, int_lt, refl}
use Rattle.std.specs.Ordering.{int_eq}
use Rattle.std.specs.FinMap.{FinMap}
use Rattle.std.specs.Coded.{Coded, code_by, coded×, coded_ℤ, coded_option}
use Rattle.ids_core.specs.declared.ids.OpId.{OpId}
use Rattle.tally_core.specs.declared.place.Place.{Place}
use Rattle.tally_core.specs.declared.place.Cell.{Cell}
use Rattle.tally_core.specs.Places.{place, place_cmp}
use Rattle.tally_core.specs.Sparse.{at, change, from_sparse}

module _ {P : Type 0} where
  -- the tally, with what its add keeps where the tally is 1 or more
  abbrev pub cell : ℤ → Option P → Cell P
  cell count kept = record { count = count; kept = cond (int_lt (pos 0) count) kept None }

  -- what stands where nothing is stored
  abbrev pub nothing : Cell P
  nothing = record { count = pos 0; kept = None }

  -- whether nothing is stored there
  abbrev pub is_nothing : Cell P → Bool
  is_nothing c = int_eq c.count (pos 0) && not (is_some c.kept)

  -- one more, of an add that keeps something, or one less
  abbrev pub turned : Option P → Cell P → Cell P
  turned None c = cell (c.count +ℤ negsuc 0) c.kept
  turned (Some p) c = cell (c.count +ℤ pos 1) (Some p)

  -- a cell is stored as its tally and what is kept
  abbrev pub cell_code : Coded P → Coded (Cell P)
  cell_code code = code_by (ℤ × Option P) (coded× coded_ℤ (coded_option code)) (λ c. (c.count, c.kept)) (λ p. record { count = p.0; kept = p.1 }) (λ _. refl)

-- the cells that are not nothing
abbrev pub Tallied : Type 0 → Type 0
Tallied P = FinMap place_cmp (Cell P)

module _ {P : Type 0} where
  -- the cell at a place
  abbrev pub cell_at : Tallied P → Place → Cell P
  cell_at = at nothing is_nothing

  -- one more or one less at a place
  abbrev pub turn : Tallied P → (Place × Option P) → Tallied P
  turn m c = change nothing is_nothing m c.0 (turned c.1)

  -- one less for each identifier under the name
  abbrev pub lowers : List ℕ → List OpId → List (Place × Option P)
  lowers name over = map (λ id. (place name id, None)) over

  -- one more for the identifier, where something is added
  abbrev pub raises : List ℕ → OpId → Option P → List (Place × Option P)
  raises name id None = []
  raises name id (Some p) = (place name id, Some p) ∷ []

  -- the tallies after one operation
  abbrev pub changed : Tallied P → List ℕ → OpId → Option P → List OpId → Tallied P
  changed m name id add over = fold turn m (raises name id add ++ lowers name over)

  -- what the cells of a list of entries say
  abbrev pub seen : List (Place × Cell P) → Tallied P
  seen = from_sparse nothing is_nothing
