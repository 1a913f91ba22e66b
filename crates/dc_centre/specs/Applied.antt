-- What a centre keeps of the records that it applied, and which record can be applied next.
use Rattle.std.specs.Prelude.{◌≡◌, ◌≤◌, ℕ, ◌+◌, Bool, true, ◌==◌, List, Some, length, All}
use Rattle.list_core.specs.Members.{In}
use Rattle.ids_core.specs.declared.limits.TheConstants.{MOST_CENTRES, MOST_CLIENTS, MOST_UPDATES}
use Rattle.ids_core.specs.declared.ids.Dot.{Dot}
use Rattle.vv_core.specs.declared.stamp.Stamp.{Stamp}
use Rattle.vv_core.specs.Vectors.{at, Covers}
use Rattle.dup_guard.specs.declared.guard.Last.{Last}
use Rattle.dup_guard.specs.Notes.{number_of, stamp_of}
use Rattle.tx_core.specs.declared.tx.Record.{Record}
use Rattle.op_log.specs.declared.logged.Logged.{Logged}
use Rattle.op_log.specs.Logs.{LogView}
use Rattle.check_point.specs.Points.{PointView, HasFewUpdates}
use Rattle.point_log.specs.StandFor.{StandFor}
use Rattle.point_log.specs.KeptLogs.{IsKeptLog}
use Rattle.point_log.specs.Served.{ServedEntries, AreServed}
use Rattle.point_log.specs.Mines.{MineEntries, AreMines}
use Rattle.object_delta.specs.Passed.{PassedEntries, ArePassed}
use Rattle.dc_talk.specs.Records.{count, vector, guard, first_stamp, top, has}
use Rattle.dc_talk.specs.Dots.{dots_of}

-- what is kept of the applied records: how many there are of each centre, the last number of each client with the
-- stamp of its first record, the greatest rank, and the transactions, those within the point's vector folded into
-- states and the others in a log
pub record AppliedView : Type 0 where
  pub counts : List ℕ
  pub lasts : List Last
  pub greatest : ℕ
  pub point : PointView
  pub log : LogView

-- the record can be applied next: it is the next of its origin, and its transaction is one of its client's that is
-- here or the next one
pub record IsNext (x : AppliedView) (r : Record) : Type 0 where
  pub centre : (1 ≤ r.stamp.centre) × (r.stamp.centre ≤ length x.counts)
  pub seq : r.stamp.seq ≡ at x.counts r.stamp.centre + 1
  pub client : (1 ≤ r.tx.dot.client) × (r.tx.dot.client ≤ MOST_CLIENTS)
  pub low : 1 ≤ r.tx.dot.number
  pub next : r.tx.dot.number ≤ number_of x.lasts r.tx.dot.client + 1
  pub few : length r.tx.updates ≤ MOST_UPDATES

-- whether the record is of a new transaction
abbrev pub is_fresh : AppliedView → Record → Bool
is_fresh x r = r.tx.dot.number == number_of x.lasts r.tx.dot.client + 1

-- the greatest number of a client, with the stamp of its first record, as they are after the records A
pub record IsGuard (A : List Record) (lasts : List Last) : Type 0 where
  pub numbers : (client : ℕ) → number_of lasts client ≡ guard client A
  pub stamps : (client : ℕ) → 1 ≤ guard client A → stamp_of lasts client ≡ first_stamp (record { client = client; number = guard client A }) A

-- the stamp is of one of n centres
pub record IsCentreOf (n : ℕ) (s : Stamp) : Type 0 where
  pub low : 1 ≤ s.centre
  pub high : s.centre ≤ n

-- the record's stamp is of one of n centres, and one of the first that centre gave
pub record IsRanged (n : ℕ) (A : List Record) (r : Record) : Type 0 where
  pub centre : IsCentreOf n r.stamp
  pub low : 1 ≤ r.stamp.seq
  pub high : r.stamp.seq ≤ count r.stamp.centre A

-- a record with the stamp k of centre e is there
pub record IsPlaced (A : List Record) (e k : ℕ) : Type 0 where
  pub item : Record
  pub there : In item A
  pub stamp_is : item.stamp ≡ record { centre = e; seq = k }

-- all that is kept is as it is after the records A of n centres
pub record IsApplied (n : ℕ) (x : AppliedView) (A : List Record) : Type 0 where
  pub width : (1 ≤ n) × (n ≤ MOST_CENTRES)
  pub wide : length x.counts ≡ n
  pub based : length x.point.vector ≡ n
  pub counted : x.counts ≡ vector n A
  pub guarded : IsGuard A x.lasts
  pub ranked : x.greatest ≡ top A
  pub stored : StandFor A x.point x.log
  pub within : Covers x.counts x.point.vector
  pub there : (d : Dot) → 1 ≤ d.number → d.number ≤ guard d.client A → has d (dots_of A) ≡ true
  pub updates : All (λ r. HasFewUpdates r.tx) A
  pub placed : (e k : ℕ) → 1 ≤ k → k ≤ count e A → IsPlaced A e k
  pub ranged : (r : Record) → In r A → IsRanged n A r

-- what is kept is well kept, whatever records it stands for: all vectors are of one width, and what is folded is counted;
-- the stamp of each client is of a centre; each transaction in the log has few updates, and is one of its client's up to
-- the last; the log can be folded on, as the states are that were served; the numbers that were told are those of
-- clients; and what is known of the first operations of objects is so
pub record IsKept (x : AppliedView) (served : ServedEntries) (mines : MineEntries) (known : PassedEntries) : Type 0 where
  pub width : (1 ≤ length x.counts) × (length x.counts ≤ MOST_CENTRES)
  pub based : length x.point.vector ≡ length x.counts
  pub within : Covers x.counts x.point.vector
  pub stamps : (client : ℕ) (s : Stamp) → stamp_of x.lasts client ≡ Some s → IsCentreOf (length x.counts) s
  pub numbers : (l : Logged) → In l x.log.items → l.tx.dot.number ≤ number_of x.lasts l.tx.dot.client
  pub updates : All (λ (l : Logged). HasFewUpdates l.tx) x.log.items
  pub logged : IsKeptLog x.log
  pub states : AreServed x.counts x.point x.log served
  pub told : AreMines x.counts x.point x.log mines
  pub passed : ArePassed (length x.counts) x.log known
