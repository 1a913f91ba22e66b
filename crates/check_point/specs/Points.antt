-- Points: what they keep, and which transactions they stand for.
use Rattle.std.specs.Prelude.{◌≡◌, ◌≤◌, ◌==◌, ℕ, Bool, is_some, unwrap_or, List, length}
use Rattle.std.specs.Map.{lookup}
use Rattle.std.specs.Option.{option_or}
use Rattle.ids_core.specs.declared.object.ObjectId.{ObjectId}
use Rattle.ids_core.specs.declared.limits.TheConstants.{MOST_UPDATES}
use Rattle.ids_core.specs.Ids.{same_object}
use Rattle.tx_core.specs.declared.tx.Tx.{Tx}
use Rattle.tx_core.specs.declared.state.State.{State}
use Rattle.tx_core.specs.States.{empty_of}
use Rattle.check_point.specs.Operations.{state_after, greatest, is_touched}

-- objects with a state each
abbrev pub StateEntries : Type 0
StateEntries = List (ObjectId × State)

-- clients with a number each
abbrev pub NumberEntries : Type 0
NumberEntries = List (ℕ × ℕ)

-- what contracts see of a point: its vector, the states of the objects that it knows, the greatest numbers
-- of the clients that it knows, and how many transactions were folded
pub record PointView : Type 0 where
  pub vector : List ℕ
  pub states : StateEntries
  pub numbers : NumberEntries
  pub folded : ℕ

-- the state of the object among the entries, the empty one of its kind where there is none
abbrev pub state_in : StateEntries → ObjectId → State
state_in entries o = unwrap_or (lookup (same_object o) entries) (empty_of o.sort)

-- the number of the client among the entries, 0 where there is none
abbrev pub number_in : NumberEntries → ℕ → ℕ
number_in entries client = unwrap_or (lookup (λ c. client == c) entries) 0

-- whether the entries have a state of the object
abbrev pub has_state : StateEntries → ObjectId → Bool
has_state entries o = is_some (lookup (same_object o) entries)

-- the state of the object at the point
abbrev pub state_of : PointView → ObjectId → State
state_of point o = state_in point.states o

-- the greatest number of the client at the point
abbrev pub number_of : PointView → ℕ → ℕ
number_of point client = number_in point.numbers client

-- the point has the states, the greatest numbers and the count of these transactions, and a state of just the objects
-- that they have operations on
pub record IsPointOf (point : PointView) (txs : List Tx) : Type 0 where
  pub states : (o : ObjectId) → state_of point o ≡ state_after o txs
  pub numbers : (client : ℕ) → number_of point client ≡ greatest client txs
  pub folded : point.folded ≡ length txs
  pub known : (o : ObjectId) → has_state point.states o ≡ is_touched o txs

-- the transaction has no more updates than a transaction may have
pub record HasFewUpdates (tx : Tx) : Type 0 where
  pub few : length tx.updates ≤ MOST_UPDATES

-- the state of the object where changed entries stand before others
abbrev pub state_over : StateEntries → StateEntries → ObjectId → State
state_over changed kept o = unwrap_or (option_or (lookup (same_object o) changed) (lookup (same_object o) kept)) (empty_of o.sort)

-- the number of the client where raised entries stand before others
abbrev pub number_over : NumberEntries → NumberEntries → ℕ → ℕ
number_over raised kept client = unwrap_or (option_or (lookup (λ c. client == c) raised) (lookup (λ c. client == c) kept)) 0
