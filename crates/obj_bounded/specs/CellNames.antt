-- The cells of a bounded counter (Balegas and others, SRDS 2015): counters that tell what each holder was granted, gave to
-- each other one, and took.
use Rattle.std.specs.Prelude.{ℕ, ◌+◌, ◌≤◌, ◌==◌, not, filter, length, map, List, [], ◌∷◌, ◌++◌, codes}
use Rattle.std.specs.List.{range_with_len}
use Rattle.ids_core.specs.declared.object.ObjectId.{ObjectId}
use Rattle.ids_core.specs.declared.object.Sort.TheVariants.{Counter}
use Rattle.obj_bounded.specs.declared.cell_names.TheConstants.{MOST_BOUNDED_NAME, MOST_HOLDERS}

-- ---- one cell

-- the digit of a number below 10
abbrev pub digit : ℕ → ℕ
digit number = 48 + number

-- the last four bytes of a cell's name: its two digits, with a _, which is 95, before each
abbrev pub cell_ending : ℕ → ℕ → List ℕ
cell_ending from to = 95 ∷ digit from ∷ 95 ∷ digit to ∷ []

-- the name of the cell of a bounded counter from a holder to another one, to itself, or to 0
abbrev pub cell_name : List ℕ → ℕ → ℕ → List ℕ
cell_name name from to = codes "bc_" ++ (name ++ cell_ending from to)

-- there is such a cell
pub record IsCell (name : List ℕ) (from to : ℕ) : Type 0 where
  pub few : length name ≤ MOST_BOUNDED_NAME
  pub from_there : (1 ≤ from) × (from ≤ MOST_HOLDERS)
  pub to_there : to ≤ MOST_HOLDERS

-- ---- the cells of a holder

-- one of so many holders
pub record IsHolder (holders holder : ℕ) : Type 0 where
  pub low : 1 ≤ holder
  pub high : holder ≤ holders
  pub most : holders ≤ MOST_HOLDERS

-- the holders but this one
abbrev pub other_holders : ℕ → ℕ → List ℕ
other_holders holder holders = filter (λ other. not (other == holder)) (range_with_len 1 holders)

-- the cells that count for a holder among so many: what it was granted, and what others gave to it
abbrev pub gain_names : List ℕ → ℕ → ℕ → List (List ℕ)
gain_names name holder holders = map (λ from. cell_name name from holder) (range_with_len 1 holders)

-- those that count against it: what it gave to others, and what it took
abbrev pub loss_names : List ℕ → ℕ → ℕ → List (List ℕ)
loss_names name holder holders = map (cell_name name holder) (other_holders holder holders ++ 0 ∷ [])

-- all of them
abbrev pub cell_names : List ℕ → ℕ → ℕ → List (List ℕ)
cell_names name holder holders = gain_names name holder holders ++ loss_names name holder holders

-- ---- as objects

-- the counter of a name
abbrev pub counter_of : List ℕ → ObjectId
counter_of name = record { sort = Counter; name = name }

-- the counters that count for a holder
abbrev pub gain_cells : List ℕ → ℕ → ℕ → List ObjectId
gain_cells name holder holders = map counter_of (gain_names name holder holders)

-- and those that count against it
abbrev pub loss_cells : List ℕ → ℕ → ℕ → List ObjectId
loss_cells name holder holders = map counter_of (loss_names name holder holders)
