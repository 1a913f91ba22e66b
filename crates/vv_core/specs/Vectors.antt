-- Vectors: lists of numbers, read by the number of a centre, counted from 1. Where a vector has no entry, it is 0.
use Rattle.std.specs.Prelude.{◌≡◌, ◌≤◌, ◌<◌, ℕ, zero, suc, ◌+◌, Bool, true, ◌==◌, ◌&&◌, nat_le, nat_lt, if◌then◌else◌, max, min, Option, Some, None, List, [], ◌∷◌, length, slice_index, replicate, map, filter, count_by, All}
use Rattle.std.specs.List.{range_with_len}
use Rattle.vv_core.specs.declared.stamp.Stamp.{Stamp}
use Rattle.vv_core.specs.declared.stamp.Lack.{Lack}

-- the entry of a centre, and 0 where there is none
abbrev pub at : List ℕ → ℕ → ℕ
at v zero = 0
at v (suc e) = slice_index v e

-- n entries that are 0
abbrev pub zeros : ℕ → List ℕ
zeros n = replicate n 0

-- v covers w: no entry of w is greater
pub record Covers (v w : List ℕ) : Type 0 where
  pub holds : (e : ℕ) → at w e ≤ at v e

-- whether v covers w
abbrev pub covers : List ℕ → List ℕ → Bool
covers v [] = true
covers [] (y ∷ w) = nat_le y 0 && covers [] w
covers (x ∷ v) (y ∷ w) = nat_le y x && covers v w

-- the greater of each two entries
abbrev pub join_of : List ℕ → List ℕ → List ℕ
join_of [] w = w
join_of (x ∷ v) [] = x ∷ v
join_of (x ∷ v) (y ∷ w) = max x y ∷ join_of v w

-- the least of each two entries
abbrev pub meet_of : List ℕ → List ℕ → List ℕ
meet_of [] w = []
meet_of (x ∷ v) [] = []
meet_of (x ∷ v) (y ∷ w) = min x y ∷ meet_of v w

-- the centres 1 to n
abbrev pub centres : ℕ → List ℕ
centres n = range_with_len 1 n

-- the vector of the values of f at the centres 1 to n
abbrev pub tabulate : ℕ → (ℕ → ℕ) → List ℕ
tabulate n f = map f (centres n)

-- n entries: the stamp's number at its centre, and 0 elsewhere
abbrev pub only : ℕ → Stamp → List ℕ
only n s = tabulate n (λ e. if e == s.centre then s.seq else 0)

-- the join with that one stamp
abbrev pub raised : List ℕ → Stamp → List ℕ
raised v s = join_of v (only (length v) s)

-- whether the stamp is within the vector
abbrev pub within : Stamp → List ℕ → Bool
within s v = nat_le s.seq (at v s.centre)

-- the greatest of a list, and 0 of none
abbrev pub most : List ℕ → ℕ
most [] = 0
most (x ∷ xs) = max x (most xs)

-- how many of a list reach x
abbrev pub reach : ℕ → List ℕ → ℕ
reach x xs = count_by (λ y. nat_le x y) xs

-- the greatest number of a list that at least k of the list reach
abbrev pub kth_of : ℕ → List ℕ → ℕ
kth_of k xs = most (filter (λ x. nat_le k (reach x xs)) xs)

-- the entries of the rows at a centre
abbrev pub column : ℕ → List (List ℕ) → List ℕ
column e rows = map (λ row. at row e) rows

-- the least of a list, and 0 of none
abbrev pub least : List ℕ → ℕ
least [] = 0
least (x ∷ []) = x
least (x ∷ y ∷ ys) = min x (least (y ∷ ys))

-- the width of the first row
abbrev pub width_of : List (List ℕ) → ℕ
width_of [] = 0
width_of (row ∷ rows) = length row

-- the K-th largest of rows: at each centre the greatest number that at least k rows reach
abbrev pub kth_largest : ℕ → List (List ℕ) → List ℕ
kth_largest k rows = tabulate (width_of rows) (λ e. kth_of k (column e rows))

-- the lack of the centre e where there is one, and else what is lacked later
abbrev pub lack_or : ℕ → ℕ → ℕ → Option Lack → Option Lack
lack_or e have need later = if nat_lt have need then Some (record { centre = e; need = need; have = have }) else later

-- the first lack of two lists of entries that begin at the centre e
abbrev pub lack_from : ℕ → List ℕ → List ℕ → Option Lack
lack_from e have [] = None
lack_from e [] (n ∷ need) = lack_or e 0 n (lack_from (e + 1) [] need)
lack_from e (h ∷ have) (n ∷ need) = lack_or e h n (lack_from (e + 1) have need)

-- the least centre where need exceeds have, with both numbers
abbrev pub lack_of : List ℕ → List ℕ → Option Lack
lack_of have need = lack_from 1 have need

-- the same, told by its properties
pub record IsFirstLack (have need : List ℕ) (lack : Lack) : Type 0 where
  pub centre : (1 ≤ lack.centre) × (lack.centre ≤ length need)
  pub number : lack.need ≡ at need lack.centre
  pub has : lack.have ≡ at have lack.centre
  pub lacks : lack.have < lack.need
  pub before : (e : ℕ) → e < lack.centre → at need e ≤ at have e

-- v is sound for a table that gives some stamps a vector: it covers the vector of each stamp within it
pub record SoundFor (table : ℕ → ℕ → Option (List ℕ)) (v : List ℕ) : Type 0 where
  pub holds : (e k : ℕ) (w : List ℕ) → 1 ≤ k → k ≤ at v e → table e k ≡ Some w → Covers v w

-- each row is sound for the table
abbrev pub AllSound : (ℕ → ℕ → Option (List ℕ)) → List (List ℕ) → Type 0
AllSound table rows = All (λ row. SoundFor table row) rows
