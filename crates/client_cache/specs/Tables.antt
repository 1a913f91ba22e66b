-- The entries of a table of what is kept of objects.
use Rattle.std.specs.Prelude.{ℕ, Bool, false, List, map, Option, Some, None}
use Rattle.ids_core.specs.declared.object.ObjectId.{ObjectId}
use Rattle.dc_talk.specs.declared.calls.Cached.{Cached}
use Rattle.dc_talk.specs.Clients.{same_vector}
use Rattle.client_cache.specs.Caches.{StateAt}

-- an object with what is kept of it, as an entry
abbrev pub as_entry : (ObjectId × StateAt) → Cached
as_entry e = record { object = e.0; vector = e.1.vector; state = e.1.state }

-- the entries, in their order
abbrev pub entries_of : List (ObjectId × StateAt) → List Cached
entries_of = map as_entry

-- whether what is kept of an object is at the vector
abbrev pub is_held_at : List ℕ → Option StateAt → Bool
is_held_at w None = false
is_held_at w (Some held) = same_vector held.vector w
