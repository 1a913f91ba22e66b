-- A cache after a look-up.
use Rattle.std.specs.Prelude.{◌≡◌, ⊤}
use mathlib.Core.Option.{none}
use Rattle.std.specs.Borrow.{MutBor, Fml, follows_so}
use Rattle.client_cache.specs.Caches.{Entries}
use Rattle.client_cache.specs.contracts.cache.Cache.{the_row}

-- the cache ends as this value
abbrev pub EndsAs : MutBor Entries → Entries → Fml
EndsAs cache value = follows_so the_row the_row cache.ghost_name none (λ _ _. ⊤) (λ end. end ≡ value)
