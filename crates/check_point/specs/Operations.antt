-- What transactions leave: the state of an object, and the greatest number of a client.
use Rattle.std.specs.Prelude.{ℕ, ◌==◌, Bool, cond, max, List, [], ◌∷◌, flat_map}
use Rattle.std.specs.List.{list_any}
use Rattle.ids_core.specs.declared.object.ObjectId.{ObjectId}
use Rattle.ids_core.specs.Ids.{same_object}
use Rattle.tx_core.specs.declared.tx.Tx.{Tx}
use Rattle.tx_core.specs.declared.state.State.{State}
use Rattle.tx_core.specs.States.{empty_of, fold_of}
use Rattle.tx_core.specs.Operations.{ops_of}

-- the state of the object after the transactions, in their order
abbrev pub state_after : ObjectId → List Tx → State
state_after o txs = fold_of (empty_of o.sort) (flat_map (ops_of o) txs)

-- the greatest number of the client's transactions, 0 for none
abbrev pub greatest : ℕ → List Tx → ℕ
greatest client [] = 0
greatest client (tx ∷ txs) = max (cond (tx.dot.client == client) tx.dot.number 0) (greatest client txs)

-- whether an update of the transaction is on the object
abbrev pub touches : ObjectId → Tx → Bool
touches o tx = list_any (λ u. same_object u.object o) tx.updates

-- whether one of the transactions is
abbrev pub is_touched : ObjectId → List Tx → Bool
is_touched o txs = list_any (touches o) txs
