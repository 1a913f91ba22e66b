-- What a centre was told of the others' vectors, and what follows from it with the centre's own vector.
use Rattle.std.specs.Prelude.{◌≡◌, ◌≢◌, ◌≤◌, ℕ, zero, suc, ◌==◌, cond, List, [], length, take, map, All}
use Rattle.std.proofs.Common.{get_or}
use Rattle.ids_core.specs.declared.limits.TheConstants.{MOST_CENTRES}
use Rattle.vv_core.specs.Vectors.{Covers, centres, tabulate, column, least, kth_largest, meet_of, join_of}

-- which of n centres it is, how many make an entry stable, and for each centre in order the join of the vectors
-- learned from it
pub record Table : Type 0 where
  pub me : ℕ
  pub n : ℕ
  pub k : ℕ
  pub rows : List (List ℕ)

-- it is one of at most MOST_CENTRES centres, K is a number of centres, and each centre has a row
pub record IsTable (t : Table) : Type 0 where
  pub centre : (1 ≤ t.me) × (t.me ≤ t.n)
  pub few : t.n ≤ MOST_CENTRES
  pub known : (1 ≤ t.k) × (t.k ≤ t.n)
  pub count : length t.rows ≡ t.n
  pub wide : All (λ row. length row ≡ t.n) t.rows

-- the table whose rows stand first in a place for more
abbrev pub table_in : ℕ → ℕ → ℕ → List (List ℕ) → Table
table_in me n k places = record { me = me; n = n; k = k; rows = take n places }

-- the row of a centre, counted from 1
abbrev pub told_by : Table → ℕ → List ℕ
told_by t zero = []
told_by t (suc i) = get_or t.rows i []

-- the table after it learned a vector from a centre
pub record Learns (old new : Table) (from : ℕ) (vector : List ℕ) : Type 0 where
  pub same : (new.me ≡ old.me) × (new.n ≡ old.n) × (new.k ≡ old.k)
  pub own : from ≡ old.me → new ≡ old
  pub told : from ≢ old.me → told_by new from ≡ join_of (told_by old from) vector
  pub others : (j : ℕ) → j ≢ from → told_by new j ≡ told_by old j

-- the same table after more was learned: no row has less
pub record IsLater (old new : Table) : Type 0 where
  pub me : new.me ≡ old.me
  pub n : new.n ≡ old.n
  pub k : new.k ≡ old.k
  pub rows : (j : ℕ) → Covers (told_by new j) (told_by old j)

-- a row for each centre: the own vector at the own place, and what was told at the others
abbrev pub rows_of : Table → List ℕ → List (List ℕ)
rows_of t own = map (λ j. cond (j == t.me) own (told_by t j)) (centres t.n)

-- at each centre the greatest number that K rows reach, then the meet with the own vector
abbrev pub stable_of : Table → List ℕ → List ℕ
stable_of t own = meet_of (kth_largest t.k (rows_of t own)) own

-- at each centre the least number of the rows
abbrev pub all_known_of : Table → List ℕ → List ℕ
all_known_of t own = tabulate t.n (λ e. least (column e (rows_of t own)))
