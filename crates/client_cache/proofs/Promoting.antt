-- What a look-up leaves of a cache that has not the object.
use Rattle.std.proofs.Common.{◌≡◌, ℕ, List, None}
use Rattle.ids_core.specs.declared.object.ObjectId.{ObjectId}
use Rattle.dc_talk.specs.declared.calls.Cached.{Cached}
use Rattle.dc_talk.specs.Clients.{is_entry, cached, promoted}
use Rattle.list_core.specs.Firsts.{first_that}
use Rattle.list_core.proofs.Choices.{option_map-none}
use Rattle.list_core.proofs.Places.{brought_forward-absent}

-- it is as it was
pub promoted_absent : (o : ObjectId) (w : List ℕ) (cache : List Cached) → cached o w cache ≡ None → promoted o w cache ≡ cache
promoted_absent o w cache none = brought_forward-absent (is_entry o w) cache (option_map-none (λ (c : Cached). c.state) (first_that (is_entry o w) cache) none)
