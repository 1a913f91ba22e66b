-- The state of a session, and what it shows of an object.
use Rattle.std.specs.Prelude.{ℕ, ◌+◌, Bool, ◌&&◌, ◌==◌, max, take, flat_map, List, [], ◌∷◌, ◌++◌, Option, None}
use Rattle.std.specs.Option.{option_map, unwrap_or}
use Rattle.list_core.specs.Firsts.{first_that, without_first, brought_forward}
use Rattle.ids_core.specs.declared.ids.Dot.{Dot}
use Rattle.ids_core.specs.declared.object.ObjectId.{ObjectId}
use Rattle.ids_core.specs.Ids.{same_object}
use Rattle.vv_core.specs.Vectors.{zeros}
use lib.Pointwise.{pointwise}
use Rattle.tx_core.specs.declared.tx.Update.{Update}
use Rattle.tx_core.specs.declared.tx.Tx.{Tx}
use Rattle.tx_core.specs.declared.state.State.{State}
use Rattle.dc_talk.specs.declared.calls.Connection.{Connection}
use Rattle.dc_talk.specs.declared.calls.Cached.{Cached}
use Rattle.tx_core.specs.States.{fold_of}
use Rattle.tx_core.specs.Operations.{ops_from, ops_of}

-- one client: the snapshot, the number of its commits, how many of them are within the snapshot, the
-- greatest rank that it was told of or has used, the commits that are not within the snapshot, the
-- link, the updates of the open transaction, and the cache, the most recently used first, with the
-- most entries that it may have
pub record Client : Type 0 where
  pub client : ℕ
  pub vector : List ℕ
  pub own : ℕ
  pub mine : ℕ
  pub clock : ℕ
  pub pending : List Tx
  pub link : Option Connection
  pub draft : Option (List Update)
  pub cache : List Cached
  pub capacity : ℕ

-- the client at first, among n centres
abbrev pub new_client : ℕ → ℕ → ℕ → Client
new_client n client capacity = record { client = client; vector = zeros n; own = 0; mine = 0; clock = 0; pending = []; link = None; draft = None; cache = []; capacity = capacity }

-- the dot of the open transaction, or of the next one
abbrev pub next_dot : Client → Dot
next_dot s = record { client = s.client; number = s.own + 1 }

-- the transaction of these updates that would be committed now
abbrev pub next_tx : Client → List Update → Tx
next_tx s updates = record { dot = next_dot s; rank = s.clock + 1; snap = s.vector; updates = updates }

-- the greatest own number that is known to be at the connected centre or within the snapshot
abbrev pub settled : Client → Connection → ℕ
settled s link = max link.sent s.mine

-- whether two vectors are equal
abbrev pub same_vector : List ℕ → List ℕ → Bool
same_vector v w = pointwise ◌==◌ v w

-- the entry is of the object, at the vector
abbrev pub is_entry : ObjectId → List ℕ → Cached → Bool
is_entry o w c = same_object c.object o && same_vector c.vector w

-- what the cache has of the object at the vector
abbrev pub cached : ObjectId → List ℕ → List Cached → Option State
cached o w cache = option_map (λ c. c.state) (first_that (is_entry o w) cache)

-- the cache with the entry of the object at the vector in front, where there is one
abbrev pub promoted : ObjectId → List ℕ → List Cached → List Cached
promoted o w cache = brought_forward (is_entry o w) cache

-- the entry is of the object
abbrev pub is_of : ObjectId → Cached → Bool
is_of o c = same_object c.object o

-- what the cache has of the object, at whatever vector
abbrev pub entry_of : ObjectId → List Cached → Option Cached
entry_of o cache = first_that (is_of o) cache

-- the cache without its entry of the object
abbrev pub forgotten : ObjectId → List Cached → List Cached
forgotten o cache = without_first (is_of o) cache

-- the cache with a new entry in front, in place of the one of its object; past the capacity the
-- last entry falls out
abbrev pub kept : ℕ → Cached → List Cached → List Cached
kept capacity new cache = take capacity (new ∷ without_first (λ c. same_object c.object new.object) cache)

-- the updates of the open transaction, none where none is open
abbrev pub draft_updates : Client → List Update
draft_updates s = unwrap_or s.draft []

-- what the client has of an object whose state at the vector is given: that state, the pending
-- commits in order, and the open transaction
abbrev pub view : Client → ObjectId → State → State
view s o state = fold_of state (flat_map (ops_of o) s.pending ++ ops_from o (s.clock + 1) (next_dot s) 0 (draft_updates s))
