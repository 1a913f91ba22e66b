-- The transactions of applied records, split at a base into those that were folded and those that are kept.
use Rattle.std.specs.Prelude.{◌≡◌, ℕ, Bool, true, false, List, ◌++◌, map}
use Rattle.list_core.specs.Members.{In}
use Rattle.list_core.specs.Permutations.{Perm}
use Rattle.tx_core.specs.declared.tx.Tx.{Tx}
use Rattle.tx_core.specs.declared.tx.Record.{Record}
use Rattle.dc_talk.specs.Records.{has, inside, firsts}

-- the transactions of the records, each dot once, by its first record
abbrev pub first_txs : List Record → List Tx
first_txs A = map (λ r. r.tx) (firsts A)

-- whether the transaction has a stamp within the vector, after the records A
abbrev pub is_inside : List Record → List ℕ → Tx → Bool
is_inside A w tx = has tx.dot (inside A w)

-- of the records A all that is within the base was folded and the rest is kept, each dot once, by its first
-- record, in whatever order
pub record IsSplit (A : List Record) (base : List ℕ) (folded kept : List Tx) : Type 0 where
  pub whole : Perm (folded ++ kept) (first_txs A)
  pub within : (tx : Tx) → In tx folded → is_inside A base tx ≡ true
  pub rest : (tx : Tx) → In tx kept → is_inside A base tx ≡ false
