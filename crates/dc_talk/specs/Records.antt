-- Lists of records, as a centre applies them: who made what, and what lies within a vector.
use Rattle.std.specs.Prelude.{ℕ, Bool, false, ◌||◌, cond, max, nat_le, ◌==◌, List, [], ◌∷◌, map, filter, count_by, Option, Some, None}
use Rattle.ids_core.specs.declared.ids.Dot.{Dot}
use Rattle.ids_core.specs.Ids.{same_dot}
use Rattle.vv_core.specs.declared.stamp.Stamp.{Stamp}
use Rattle.vv_core.specs.Vectors.{tabulate, join_of, only, within}
use Rattle.tx_core.specs.declared.tx.Tx.{Tx}
use Rattle.tx_core.specs.declared.tx.Record.{Record}

-- how many of the records have a stamp of centre e
abbrev pub count : ℕ → List Record → ℕ
count e A = count_by (λ r. r.stamp.centre == e) A

-- the vector of n entries that counts the records by the centres of their stamps
abbrev pub vector : ℕ → List Record → List ℕ
vector n A = tabulate n (λ e. count e A)

-- the greatest number of client c's transactions, 0 for none
abbrev pub guard : ℕ → List Record → ℕ
guard c [] = 0
guard c (r ∷ A) = max (cond (r.tx.dot.client == c) r.tx.dot.number 0) (guard c A)

-- the stamp of the first record of dot d
abbrev pub first_stamp : Dot → List Record → Option Stamp
first_stamp d [] = None
first_stamp d (r ∷ A) = cond (same_dot r.tx.dot d) (Some r.stamp) (first_stamp d A)

-- the greatest rank, 0 for none
abbrev pub top : List Record → ℕ
top [] = 0
top (r ∷ A) = max r.tx.rank (top A)

-- the records stamped by centre e, in order
abbrev pub own : ℕ → List Record → List Record
own e A = filter (λ r. r.stamp.centre == e) A

-- whether the dot is in the list
abbrev pub has : Dot → List Dot → Bool
has d [] = false
has d (x ∷ D) = same_dot d x || has d D

-- the dots of the records whose stamp is within the vector
abbrev pub inside : List Record → List ℕ → List Dot
inside A w = map (λ r. r.tx.dot) (filter (λ r. within r.stamp w) A)

-- the greatest number of client c among the dots, 0 for none
abbrev pub mine : ℕ → List Dot → ℕ
mine c [] = 0
mine c (d ∷ D) = max (cond (d.client == c) d.number 0) (mine c D)

-- the first record of each dot that was not seen before
abbrev pub firsts_past : List Dot → List Record → List Record
firsts_past seen [] = []
firsts_past seen (r ∷ A) = cond (has r.tx.dot seen) (firsts_past seen A) (r ∷ firsts_past (r.tx.dot ∷ seen) A)

-- the first record of each dot
abbrev pub firsts : List Record → List Record
firsts A = firsts_past [] A

-- the join of a vector with one stamp, where there is one
abbrev pub joined : ℕ → List ℕ → Option Stamp → List ℕ
joined n v None = v
joined n v (Some s) = join_of v (only n s)

-- the dependency vector of a transaction that is stamped after the records A: its snapshot, joined
-- from its client's second transaction on with the stamp under which the centre has the one before
abbrev pub deps_of : ℕ → List Record → Tx → List ℕ
deps_of n A tx = cond (nat_le 2 tx.dot.number) (joined n tx.snap (first_stamp (record { client = tx.dot.client; number = guard tx.dot.client A }) A)) tx.snap
