-- The state of an object, as a fold of its operations, and the operations that came to it between two vectors.
use Rattle.std.specs.Prelude.{ℕ, ◌&&◌, not, List, filter, flat_map}
use Rattle.ids_core.specs.declared.ids.Mark.{Mark}
use Rattle.ids_core.specs.declared.object.ObjectId.{ObjectId}
use Rattle.tx_core.specs.declared.op.Op.{Op}
use Rattle.tx_core.specs.declared.tx.Record.{Record}
use Rattle.tx_core.specs.declared.state.State.{State}
use Rattle.tx_core.specs.States.{empty_of, fold_of}
use Rattle.tx_core.specs.Operations.{ops_of}
use Rattle.dc_talk.specs.Records.{has, inside, firsts}

-- the state of the object at vector w, after the records A: the fold over the first record of each
-- dot that is inside w
abbrev pub state_at : ObjectId → List Record → List ℕ → State
state_at o A w = fold_of (empty_of o.sort) (flat_map (λ r. ops_of o r.tx) (filter (λ r. has r.tx.dot (inside A w)) (firsts A)))

-- the marked operations on the object that came between the vectors, after the records A: those of the first record of
-- each dot that is inside w and not inside the one before, in the order of the records
abbrev pub ops_since : ObjectId → List Record → List ℕ → List ℕ → List (Mark × Op)
ops_since o A before w = flat_map (λ r. ops_of o r.tx) (filter (λ r. has r.tx.dot (inside A w) && not (has r.tx.dot (inside A before))) (firsts A))
