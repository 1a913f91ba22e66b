-- What a client's log tells of its numbers.
use Rattle.std.specs.Prelude.{◌≡◌, ◌≤◌, ◌<◌, ℕ, ◌+◌, List, length, drop, Some, slice_get}
use Rattle.tx_core.specs.declared.tx.Tx.{Tx}
use Rattle.dc_talk.specs.Clients.{Client}
use Rattle.ids_core.specs.declared.limits.TheConstants.{MOST_NUMBER}

-- a client that committed these transactions: it counts them, and those past its snapshot are pending;
-- each has its number, and a rank above those before it, and the client's clock is no less
pub record HasNumbers (client : ℕ) (s : Client) (C : List Tx) : Type 0 where
  pub who : s.client ≡ client
  pub own : s.own ≡ length C
  pub pending : s.pending ≡ drop s.mine C
  pub mine : s.mine ≤ s.own
  pub clock : (s.own ≤ s.clock) × (s.clock ≤ MOST_NUMBER)
  pub dots : (p : ℕ) (t : Tx) → slice_get C p ≡ Some t → t.dot ≡ record { client = client; number = p + 1 }
  pub ranks : (p : ℕ) (t : Tx) → slice_get C p ≡ Some t → t.rank ≤ s.clock
  pub ascend : (p q : ℕ) (t u : Tx) → p < q → slice_get C p ≡ Some t → slice_get C q ≡ Some u → t.rank < u.rank
