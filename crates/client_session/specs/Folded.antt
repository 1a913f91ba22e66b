-- What is kept of what a client has of objects.
use Rattle.std.specs.Prelude.{◌≡◌, ℕ, false, List, ◌++◌, Some, None, flat_map}
use Rattle.std.specs.Map.{lookup}
use Rattle.ids_core.specs.declared.ids.Dot.{Dot}
use Rattle.ids_core.specs.declared.ids.Mark.{Mark}
use Rattle.ids_core.specs.declared.object.ObjectId.{ObjectId}
use Rattle.ids_core.specs.Ids.{same_object}
use Rattle.tx_core.specs.declared.op.Op.{Op}
use Rattle.tx_core.specs.declared.tx.Update.{Update}
use Rattle.tx_core.specs.declared.tx.Tx.{Tx}
use Rattle.tx_core.specs.declared.state.State.{State}
use Rattle.tx_core.specs.Operations.{ops_from, ops_of}
use Rattle.tx_core.specs.States.{fold_of}
use Rattle.dc_talk.specs.Clients.{Client, cached, view}
use Rattle.client_session.specs.declared.past.Past.{Past}

-- objects with a state each
abbrev pub StateEntries : Type 0
StateEntries = List (ObjectId × State)

-- the marked operations on an object in commits that are pending, and in the updates of a transaction of this rank and dot
abbrev pub ops_behind : ObjectId → List Tx → ℕ → Dot → List Update → List (Mark × Op)
ops_behind o pending rank dot updates = flat_map (ops_of o) pending ++ ops_from o rank dot 0 updates

-- what the new entries have of objects other than this one, the old ones have too
abbrev pub HadApart : ObjectId → StateEntries → StateEntries → Type 0
HadApart k old new = (o : ObjectId) (seen : State) → same_object k o ≡ false → lookup (same_object o) new ≡ Some seen → lookup (same_object o) old ≡ Some seen

-- what is kept of the snapshot before, without the state of an object
pub record IsWithout (k : ObjectId) (old new : Past) : Type 0 where
  pub vector : new.vector ≡ old.vector
  pub passed : new.passed ≡ old.passed
  pub gone : lookup (same_object k) new.folded.entries ≡ None
  pub apart : (o : ObjectId) → same_object k o ≡ false → lookup (same_object o) new.folded.entries ≡ lookup (same_object o) old.folded.entries

-- each state that is kept is what the client has of its object once this was done to what the cache has at the vector
abbrev pub FollowsFrom : List ℕ → (ObjectId → State → State) → StateEntries → Client → Type 0
FollowsFrom w done folded s = (o : ObjectId) (seen state : State) → lookup (same_object o) folded ≡ Some seen → cached o w s.cache ≡ Some state → seen ≡ view s o (done o state)

-- each state that is kept is what the client has of its object, where the cache has that at the snapshot
abbrev pub Follows : StateEntries → Client → Type 0
Follows folded s = FollowsFrom s.vector (λ o state. state) folded s

-- an object's state with what commits did
abbrev pub with_commits : List Tx → ObjectId → State → State
with_commits txs o state = fold_of state (flat_map (ops_of o) txs)

-- each state that is kept of the snapshot before is what the client has of its object if nothing came to what the cache
-- has at that one but what the commits did that are within the snapshot now
abbrev pub FollowsPast : Past → Client → Type 0
FollowsPast past s = FollowsFrom past.vector (with_commits past.passed) past.folded.entries s
