-- What tallies are, from the operations.
use Rattle.std.specs.Prelude.{◌≡◌, ◌↔◌, ℕ, ◌+◌, ℤ, ◌-ℤ◌, pos, int_lt, Bool, true, false, cond, ◌&&◌, List, [], ◌∷◌, Option, Some, None, is_some}
use Rattle.list_core.specs.Members.{In}
use Rattle.ids_core.specs.declared.ids.OpId.{OpId}
use Rattle.ids_core.specs.declared.ids.Mark.{Mark}
use Rattle.tally_core.specs.Places.{place, same_name, same_id}
use Rattle.tally_core.specs.Cells.{Tallied, cell, cell_at, changed}
use Rattle.tally_core.specs.Live.{live_ids, kept_at, live_names}

-- What an operation does to tallies: under its name, its own identifier is added where something is
-- kept, and the identifiers that it is over are lowered.
pub record Change (P : Type 0) : Type 0 where
  pub name : List ℕ
  pub add : Option P
  pub over : List OpId

-- how often an identifier stands in a list, which is once at most where it strictly ascends
abbrev pub times : OpId → List OpId → ℕ
times id [] = 0
times id (other ∷ others) = cond (same_id id other) 1 0 + times id others

-- the first, or else the second
abbrev pub or_else : {P : Type 0} → Option P → Option P → Option P
or_else None other = other
or_else (Some p) other = Some p

module _ {O P : Type 0} (does : (Mark × O) → Change P) where
  -- the tallies after one more operation
  abbrev pub step : Tallied P → (Mark × O) → Tallied P
  step m op = changed m (does op).name op.0.id (does op).add (does op).over

  -- the operation is the add of the identifier under the name
  abbrev pub adds : List ℕ → OpId → (Mark × O) → Bool
  adds name id op = same_name name (does op).name && (is_some (does op).add && same_id id op.0.id)

  -- how often the operation, if it is under the name, is over the identifier
  abbrev pub holds : List ℕ → OpId → (Mark × O) → ℕ
  holds name id op = cond (same_name name (does op).name) (times id (does op).over) 0

  -- how many operations add the identifier under the name
  abbrev pub added : List ℕ → OpId → List (Mark × O) → ℕ
  added name id [] = 0
  added name id (op ∷ ops) = cond (adds name id op) 1 0 + added name id ops

  -- how many operations under the name are over the identifier
  abbrev pub held : List ℕ → OpId → List (Mark × O) → ℕ
  held name id [] = 0
  held name id (op ∷ ops) = holds name id op + held name id ops

  -- plus one for each add of the identifier, minus one for each operation that is over it
  abbrev pub tally_of : List ℕ → OpId → List (Mark × O) → ℤ
  tally_of name id ops = pos (added name id ops) -ℤ pos (held name id ops)

  -- what the add of the identifier under the name keeps: of the last one, but where identifiers differ there is one at most
  abbrev pub kept_of : List ℕ → OpId → List (Mark × O) → Option P
  kept_of name id [] = None
  kept_of name id (op ∷ ops) = or_else (kept_of name id ops) (cond (adds name id op) (does op).add None)

  -- each cell is that of the definition
  pub record IsTallyOf (ops : List (Mark × O)) (m : Tallied P) : Type 0 where
    pub each : (name : List ℕ) (id : OpId) → cell_at m (place name id) ≡ cell (tally_of name id ops) (kept_of name id ops)

  -- the add of the identifier is among the operations, and none of them under the name is over it
  pub record IsLiveIn (ops : List (Mark × O)) (name : List ℕ) (id : OpId) : Type 0 where
    pub op : Mark × O
    pub there : In op ops
    pub is : adds name id op ≡ true
    pub free : (other : Mark × O) → In other ops → holds name id other ≡ 0

-- Where identifiers differ, no tally is 2 or more, and the live identifiers, what their adds keep and the live
-- names are those of the operations.
pub record LiveByOps {O P : Type 0} (does : (Mark × O) → Change P) (ops : List (Mark × O)) (m : Tallied P) : Type 0 where
  pub few : (name : List ℕ) (id : OpId) → int_lt (pos 1) (cell_at m (place name id)).count ≡ false
  pub ids : (name : List ℕ) (id : OpId) → In id (live_ids m name) ↔ IsLiveIn does ops name id
  pub kept : (name : List ℕ) (id : OpId) (p : P) → In (id, p) (kept_at m name) ↔ ((live : IsLiveIn does ops name id) × ((does live.op).add ≡ Some p))
  pub names : (name : List ℕ) → In name (live_names m) ↔ ((id : OpId) × IsLiveIn does ops name id)
