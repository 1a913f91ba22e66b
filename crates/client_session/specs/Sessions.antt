-- What holds of every session.
use Rattle.std.specs.Prelude.{◌≡◌, ◌≤◌, ◌<◌, ℕ, ◌+◌, List, length, All, IfSome}
use Rattle.list_core.specs.Members.{In}
use Rattle.ids_core.specs.declared.limits.TheConstants.{MOST_CLIENTS, MOST_NUMBER, MOST_PENDING, MOST_UPDATES}
use Rattle.tx_core.specs.declared.tx.Update.{Update}
use Rattle.tx_core.specs.Checks.{IsModestUpdate}
use Rattle.dc_talk.specs.declared.calls.Cached.{Cached}
use Rattle.dc_talk.specs.Clients.{Client}

-- an open transaction has a rank, and its updates are few enough and modest
pub record IsDraft (clock : ℕ) (updates : List Update) : Type 0 where
  pub rank : clock < MOST_NUMBER
  pub few : length updates ≤ MOST_UPDATES
  pub modest : All IsModestUpdate updates

-- the client has a number; its numbers lie one below another; the commits that are pending
-- are those past the snapshot, and few enough, with updates that are few enough and modest; an open
-- transaction can be committed; the entries of the cache are at vectors as wide as the snapshot
pub record IsClient (s : Client) : Type 0 where
  pub client : (1 ≤ s.client) × (s.client ≤ MOST_CLIENTS)
  pub mine : s.mine ≤ s.own
  pub own : s.own ≤ s.clock
  pub clock : s.clock ≤ MOST_NUMBER
  pub count : length s.pending + s.mine ≡ s.own
  pub room : length s.pending ≤ MOST_PENDING
  pub pending : All (λ tx. length tx.updates ≤ MOST_UPDATES) s.pending
  pub modest : All (λ tx. All IsModestUpdate tx.updates) s.pending
  pub sent : IfSome s.link (λ link. link.sent ≤ s.own)
  pub draft : IfSome s.draft (IsDraft s.clock)
  pub wide : (c : Cached) → In c s.cache → length c.vector ≡ length s.vector
