-- Live identifiers, and the names that have one.
use Rattle.std.specs.Prelude.{◌≡◌, ℕ, Bool, true, false, cond, ◌&&◌, not, pos, int_lt, List, [], ◌∷◌, map, filter, filter_map, Option, Some, None, option_map}
use Rattle.std.specs.List.{dedup}
use Rattle.std.specs.FinMap.{entries}
use Rattle.ids_core.specs.declared.ids.OpId.{OpId}
use Rattle.tally_core.specs.declared.place.Place.{Place}
use Rattle.tally_core.specs.declared.place.Cell.{Cell}
use Rattle.tally_core.specs.Places.{place, same_name}
use Rattle.tally_core.specs.Cells.{Tallied, cell_at}

-- whether it is the name
abbrev pub is_name : Option (List ℕ) → List ℕ → Bool
is_name None name = false
is_name (Some last) name = same_name last name

module _ {P : Type 0} where
  -- a tally of 1 or more
  abbrev pub is_live : Cell P → Bool
  is_live c = int_lt (pos 0) c.count

  -- the entries under a name
  abbrev pub under : List ℕ → List (Place × Cell P) → List (Place × Cell P)
  under name es = filter (λ e. same_name e.0.name name) es

  -- the identifiers of the live ones, in their order
  abbrev pub live_in : List (Place × Cell P) → List OpId
  live_in es = map (λ e. e.0.id) (filter (λ e. is_live e.1) es)

  -- the live identifiers of a name
  abbrev pub live_ids : Tallied P → List ℕ → List OpId
  live_ids m name = live_in (under name (entries m))

  -- what adds keep, each with its identifier, in their order
  abbrev pub kept_in : List (Place × Cell P) → List (OpId × P)
  kept_in es = filter_map (λ e. option_map (λ p. (e.0.id, p)) e.1.kept) es

  -- what the adds of the live identifiers of a name keep
  abbrev pub kept_at : Tallied P → List ℕ → List (OpId × P)
  kept_at m name = kept_in (under name (entries m))

  -- the names with a live identifier among entries in order, each once, where the last one was given out already
  abbrev pub names_after : Option (List ℕ) → List (Place × Cell P) → List (List ℕ)
  names_after last [] = []
  names_after last (e ∷ es) = cond (is_live e.1 && not (is_name last e.0.name)) (e.0.name ∷ names_after (Some e.0.name) es) (names_after last es)

  -- the names of the live entries, in their order, each once
  abbrev pub live_names : Tallied P → List (List ℕ)
  live_names m = dedup same_name (map (λ e. e.0.name) (filter (λ e. is_live e.1) (entries m)))

  -- the name has a live identifier
  abbrev pub IsLiveName : Tallied P → List ℕ → Type 0
  IsLiveName m name = (id : OpId) × (is_live (cell_at m (place name id)) ≡ true)
