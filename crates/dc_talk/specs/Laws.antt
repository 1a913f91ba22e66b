-- What holds of every history of a centre.
use Rattle.std.specs.Prelude.{◌≡◌, ◌≤◌, ℕ, ◌+◌, ◌-◌, List, Some, length, slice_get}
use Rattle.list_core.specs.Members.{In}
use Rattle.list_core.specs.Moments.{Each}
use Rattle.ids_core.specs.declared.limits.TheConstants.{MOST_RECORDS}
use Rattle.vv_core.specs.declared.stamp.Stamp.{Stamp}
use Rattle.vv_core.specs.Vectors.{at, Covers}
use Rattle.tx_core.specs.declared.tx.Record.{Record}
use Rattle.tx_core.specs.Checks.{IsFit}
use Rattle.dc_talk.specs.declared.settings.Settings.{Settings}
use Rattle.dc_talk.specs.Entries.{Entry}
use Rattle.dc_talk.specs.Records.{count, guard, own, first_stamp}
use Rattle.dc_talk.specs.Answers.{History}

-- a history of a centre that is one of the centres, and that stamps no more transactions than it may
pub record IsCentreHistory (s : Settings) (trail : List Entry) : Type 0 where
  pub centre : (1 ≤ s.me) × (s.me ≤ s.n)
  pub few : s.limit ≤ MOST_RECORDS
  pub history : History s trail

-- a record with the stamp k of centre e is one of them
pub record HasStamp (A : List Record) (e k : ℕ) : Type 0 where
  pub item : Record
  pub there : In item A
  pub stamp_is : item.stamp ≡ record { centre = e; seq = k }

-- a record of the client's transaction with this number is one of them
pub record HasNumber (A : List Record) (client number : ℕ) : Type 0 where
  pub item : Record
  pub there : In item A
  pub client_is : item.tx.dot.client ≡ client
  pub number_is : item.tx.dot.number ≡ number

-- what a centre makes sure of for a record that it stamps after those of X: the record depends on its
-- snapshot, its transaction is its client's next, and it depends on the first stamp of the one before
pub record IsStampedAfter (X : List Record) (r : Record) : Type 0 where
  pub snap : Covers r.deps r.tx.snap
  pub fresh : r.tx.dot.number ≡ guard r.tx.dot.client X + 1
  pub before : 2 ≤ r.tx.dot.number → (s : Stamp) × (first_stamp (record { client = r.tx.dot.client; number = r.tx.dot.number - 1 }) X ≡ Some s) × (s.seq ≤ at r.deps s.centre)

-- what holds of a record r that a centre applies after those of X: it has the next stamp of its
-- centre, what it depends on is there, and its transaction is fit, and is its client's next or one that
-- is there
pub record IsInOrder (s : Settings) (X : List Record) (r : Record) : Type 0 where
  pub centre : (1 ≤ r.stamp.centre) × (r.stamp.centre ≤ s.n)
  pub number : r.stamp.seq ≡ count r.stamp.centre X + 1
  pub few : r.stamp.seq ≤ MOST_RECORDS
  pub width : length r.deps ≡ s.n
  pub waited : (e : ℕ) → at r.deps e ≤ count e X
  pub fit : IsFit s.n r.tx
  pub next : r.tx.dot.number ≤ guard r.tx.dot.client X + 1
  pub made : r.stamp.centre ≡ s.me → IsStampedAfter X r

-- records of one origin come without a gap: each number up to their count is that of a record, and of no
-- other one
pub record HasNoGaps (A : List Record) : Type 0 where
  pub all : (e k : ℕ) → 1 ≤ k → k ≤ count e A → HasStamp A e k
  pub once : (r s : Record) → In r A → In s A → r.stamp ≡ s.stamp → r ≡ s

-- each record that a record depends on is there before it
abbrev pub HasDependencies : List Record → Type 0
HasDependencies A = Each (λ X r. (e k : ℕ) → 1 ≤ k → k ≤ at r.deps e → HasStamp X e k) A

-- a client's numbers come without a gap: each up to its greatest is that of a record
abbrev pub HasNumbersBelow : List Record → Type 0
HasNumbersBelow A = (client number : ℕ) → 1 ≤ number → number ≤ guard client A → HasNumber A client number

-- the k-th record of a centre has its stamp k, counted from 1
abbrev pub HasStampsInOrder : List Record → Type 0
HasStampsInOrder A = (e k : ℕ) (r : Record) → slice_get (own e A) k ≡ Some r → r.stamp ≡ record { centre = e; seq = k + 1 }
