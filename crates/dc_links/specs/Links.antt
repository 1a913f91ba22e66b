-- The links between centres and their ends, by the numbers of the centres, which are counted from 1.
use Rattle.std.specs.Prelude.{◌≡◌, ◌≢◌, ◌≤◌, ℕ, ◌-◌, List, [], ◌++◌, map, length, slice_get, slice_index_or, All}
use Rattle.std.specs.List.{filter_map}
use Rattle.std.specs.Global.{Vec}
use Rattle.atomic_blocks.specs.Laid.{WebId}
use Rattle.dc_talk.specs.declared.sent.Sent.{Sent}
use Rattle.script_core.specs.Links.{Inlet, clean_inlet}
use Rattle.mail_link.specs.Ends.{GiverView, TakerView}

module _ {X : Type 0} where
  -- what is seen of rows
  abbrev pub rows_of : List (Vec X) → List (List X)
  rows_of rows = map (λ (row : Vec X). row.items) rows

  -- the row of a centre
  abbrev pub row_of : List (List X) → ℕ → List X
  row_of rows i = slice_index_or rows (i - 1) []

  -- the column of a centre: what each row has at the place of the centre
  abbrev pub column_of : List (List X) → ℕ → List X
  column_of rows j = filter_map (λ (row : List X). slice_get row (j - 1)) rows

-- the number of one of the first n centres
abbrev pub IsAmong : ℕ → ℕ → Type 0
IsAmong n i = (1 ≤ i) × (i ≤ n)

-- the number of another one of them
abbrev pub IsOther : ℕ → ℕ → ℕ → Type 0
IsOther n i j = IsAmong n j × (j ≢ i)

-- a list of records has grown at its end, or is as it was
abbrev pub IsMore : List Sent → List Sent → Type 0
IsMore old new = (more : List Sent) × (new ≡ old ++ more)

-- there are as many links in each row as there are rows
abbrev pub AreSquare : List (List WebId) → Type 0
AreSquare links = All (λ (row : List WebId). length row ≡ length links) links

-- ---- the ends that put

-- what was put on the link to a centre
abbrev pub put_to : List (GiverView Sent) → ℕ → List Sent
put_to givers to = slice_index_or (map (λ (giver : GiverView Sent). giver.put) givers) (to - 1) []

-- what was put on the link from one centre to another, where each sender has a row
abbrev pub put_between : List (List (GiverView Sent)) → ℕ → ℕ → List Sent
put_between rows from to = put_to (row_of rows from) to

-- the ends of the links from a centre, one to each centre in order
pub record AreGivers (links : List (List WebId)) (i : ℕ) (givers : List (GiverView Sent)) : Type 0 where
  pub number : length givers ≡ length links
  pub each : map (λ (giver : GiverView Sent). giver.link) givers ≡ row_of links i

-- so it is of each sender
pub record AreGiverRows (links : List (List WebId)) (rows : List (List (GiverView Sent))) : Type 0 where
  pub number : length rows ≡ length links
  pub each : (i : ℕ) → IsAmong (length links) i → AreGivers links i (row_of rows i)

-- ---- the ends that take

-- what was taken from the link from a centre
abbrev pub taken_from : List (TakerView Sent) → ℕ → List Sent
taken_from takers from = slice_index_or (map (λ (taker : TakerView Sent). taker.taken) takers) (from - 1) []

-- what was taken from the link from one centre to another, where each receiver has a row
abbrev pub taken_between : List (List (TakerView Sent)) → ℕ → ℕ → List Sent
taken_between rows from to = taken_from (row_of rows to) from

-- the ends of the links to a centre, one from each centre in order
pub record AreTakers (links : List (List WebId)) (j : ℕ) (takers : List (TakerView Sent)) : Type 0 where
  pub number : length takers ≡ length links
  pub each : map (λ (taker : TakerView Sent). taker.link) takers ≡ column_of links j

-- so it is of each receiver
pub record AreTakerRows (links : List (List WebId)) (rows : List (List (TakerView Sent))) : Type 0 where
  pub number : length rows ≡ length links
  pub each : (j : ℕ) → IsAmong (length links) j → AreTakers links j (row_of rows j)

-- the fault of the link from a centre, with what it holds
abbrev pub inlet_from : List (Inlet Sent) → ℕ → Inlet Sent
inlet_from inlets from = slice_index_or inlets (from - 1) clean_inlet
