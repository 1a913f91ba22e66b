-- What a cache has of an object.
use Rattle.std.specs.Prelude.{◌≡◌, ℕ, cond, List, Some, None}
use Rattle.ids_core.specs.declared.object.ObjectId.{ObjectId}
use Rattle.tx_core.specs.declared.state.State.{State}
use Rattle.dc_talk.specs.declared.calls.Cached.{Cached}
use Rattle.dc_talk.specs.Clients.{same_vector, cached, entry_of}

-- the cache has an entry of the object at the vector, with some state, and none at another vector
pub record HasOnly (o : ObjectId) (v : List ℕ) (entries : List Cached) : Type 0 where
  pub state : State
  pub entry : entry_of o entries ≡ Some (record { object = o; vector = v; state = state })
  pub only : (w : List ℕ) → cached o w entries ≡ cond (same_vector v w) (Some state) None

-- the cache has no entry of the object
pub record HasNone (o : ObjectId) (entries : List Cached) : Type 0 where
  pub entry : entry_of o entries ≡ None
  pub none : (w : List ℕ) → cached o w entries ≡ None
