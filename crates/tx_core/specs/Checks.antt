-- Which transactions are fit, and what is wrong with the others.
use Rattle.std.specs.Prelude.{◌≡◌, ◌≤◌, ◌==◌, ◌&&◌, ◌+◌, ◌-◌, ℕ, ℤ, Bool, true, not, nat_le, nat_lt, unsigned_abs, Option, Some, None, List, [], ◌∷◌, length, position, All, IsTrue}
use Rattle.std.specs.List.{list_all}
use Rattle.std.specs.Option.{option_or, option_map}
use Rattle.list_core.specs.Choices.{when, first_of}
use Rattle.ids_core.specs.declared.ids.Dot.{Dot}
use Rattle.ids_core.specs.declared.ids.OpId.{OpId}
use Rattle.ids_core.specs.declared.limits.TheConstants.{MOST_CLIENTS, MOST_UPDATES, MOST_TAGS, MOST_RECORDS, MOST_DELTA, MOST_NUMBER}
use Rattle.ids_core.specs.Ids.{same_sort}
use Rattle.tx_core.specs.declared.op.Op.{Op}
use Rattle.tx_core.specs.declared.op.Op.TheVariants.{Inc}
use Rattle.tx_core.specs.declared.tx.Update.{Update}
use Rattle.tx_core.specs.declared.tx.Tx.{Tx}
use Rattle.tx_core.specs.declared.check.TxFault.{TxFault}
use Rattle.tx_core.specs.declared.check.TxFault.TheVariants.{NoUpdates, TooManyUpdates, BadDot, BadRank, WrongWidth, BadSnap, WrongKind, DeltaTooLarge, TooManyTags, BadTag}
use Rattle.tx_core.specs.Ops.{sort_of_op, over_of}

-- from low to high, both included
abbrev pub is_within : ℕ → ℕ → ℕ → Bool
is_within low high number = nat_le low number && nat_le number high

-- a client of 1 to MOST_CLIENTS, and a number of 1 to MOST_NUMBER
abbrev pub is_dot : Dot → Bool
is_dot dot = is_within 1 MOST_CLIENTS dot.client && is_within 1 MOST_NUMBER dot.number

-- the identifier of an update of a transaction with such a dot, at a place below MOST_UPDATES
abbrev pub is_tag : OpId → Bool
is_tag id = is_dot id.dot && nat_lt id.place MOST_UPDATES

-- the delta lies in ±MOST_DELTA
abbrev pub is_small_delta : ℤ → Bool
is_small_delta delta = nat_le (unsigned_abs delta) MOST_DELTA

-- the delta of the operation, if it has one, is small
abbrev pub is_small : Op → Bool
is_small (Inc delta) = is_small_delta delta
is_small _ = true

-- the least centre with an entry above MOST_RECORDS is at fault
abbrev pub snap_fault : List ℕ → Option TxFault
snap_fault snap = option_map (λ place. BadSnap (place + 1)) (position (nat_lt MOST_RECORDS) snap)

-- what is wrong with the update at a place
abbrev pub update_fault : ℕ → Update → Option TxFault
update_fault place update =
    first_of (
    when (not (same_sort (sort_of_op update.op) update.object.sort)) (Some (WrongKind place))
    ∷ when (not (is_small update.op)) (Some (DeltaTooLarge place))
    ∷ when (nat_lt MOST_TAGS (length (over_of update.op))) (Some (TooManyTags place (length (over_of update.op))))
    ∷ when (not (list_all is_tag (over_of update.op))) (Some (BadTag place))
    ∷ [])
    None

-- what is wrong with the first update at fault, where the first of all has that place
abbrev pub updates_fault : ℕ → List Update → Option TxFault
updates_fault place [] = None
updates_fault place (update ∷ updates) = option_or (update_fault place update) (updates_fault (place + 1) updates)

-- the first fault of a transaction among n centres
abbrev pub fault_of : ℕ → Tx → Option TxFault
fault_of n tx =
    first_of (
    when (length tx.updates == 0) (Some NoUpdates)
    ∷ when (nat_lt MOST_UPDATES (length tx.updates)) (Some (TooManyUpdates (length tx.updates)))
    ∷ when (not (is_dot tx.dot)) (Some BadDot)
    ∷ when (not (is_within 1 MOST_NUMBER tx.rank)) (Some BadRank)
    ∷ when (not (length tx.snap == n)) (Some (WrongWidth (length tx.snap)))
    ∷ [])
    (option_or (snap_fault tx.snap) (updates_fault 0 tx.updates))

-- the identifier is one that an update of a fit transaction may have
pub record IsTag (id : OpId) : Type 0 where
  pub client : (1 ≤ id.dot.client) × (id.dot.client ≤ MOST_CLIENTS)
  pub number : (1 ≤ id.dot.number) × (id.dot.number ≤ MOST_NUMBER)
  pub place : id.place ≤ MOST_UPDATES - 1

-- the operation is of its object's kind, its delta is small, and it is over at most MOST_TAGS identifiers
pub record IsModestUpdate (update : Update) : Type 0 where
  pub kind : sort_of_op update.op ≡ update.object.sort
  pub delta : IsTrue (is_small update.op)
  pub tags : length (over_of update.op) ≤ MOST_TAGS

-- so it is, and each of these identifiers is one that an update of a fit transaction may have
pub record IsFitUpdate (update : Update) : Type 0 where
  pub kind : sort_of_op update.op ≡ update.object.sort
  pub delta : IsTrue (is_small update.op)
  pub tags : length (over_of update.op) ≤ MOST_TAGS
  pub over : All IsTag (over_of update.op)

-- a transaction that is fit for n centres
pub record IsFit (n : ℕ) (tx : Tx) : Type 0 where
  pub some : 1 ≤ length tx.updates
  pub few : length tx.updates ≤ MOST_UPDATES
  pub client : (1 ≤ tx.dot.client) × (tx.dot.client ≤ MOST_CLIENTS)
  pub number : (1 ≤ tx.dot.number) × (tx.dot.number ≤ MOST_NUMBER)
  pub rank : (1 ≤ tx.rank) × (tx.rank ≤ MOST_NUMBER)
  pub width : length tx.snap ≡ n
  pub snap : All (λ entry. entry ≤ MOST_RECORDS) tx.snap
  pub updates : All IsFitUpdate tx.updates
