-- What a centre holds, which trails it stands for, and what it answers.
use Rattle.std.specs.Prelude.{◌≡◌, ◌≢◌, ◌≤◌, ℕ, ◌-◌, Bool, ◌&&◌, not, cond, length, take, drop, List}
use Rattle.std.specs.Option.{unwrap_or}
use Rattle.ids_core.specs.declared.limits.TheConstants.{MOST_CENTRES, MOST_RECORDS}
use Rattle.vv_core.specs.Vectors.{at, join_of, Covers}
use Rattle.dup_guard.specs.Notes.{number_of}
use Rattle.k_stable.specs.Tables.{Table, IsTable, told_by, stable_of, all_known_of}
use Rattle.point_log.specs.StandFor.{state_told, mine_told, count_told}
use Rattle.object_delta.specs.Deltas.{ops_told}
use Rattle.dc_talk.specs.declared.ask.Ask.{Ask}
use Rattle.dc_talk.specs.declared.ask.Ask.TheVariants.{Hello, Refresh, Fetch, Delta, Commit, Send, Deliver, Relay, Report, Learn, Prune, Stop, Start}
use Rattle.dc_talk.specs.declared.say.Say.{Say}
use Rattle.dc_talk.specs.declared.say.Say.TheVariants.{Down, Snap, Vector, Learned, Base, Stopped, Started}
use Rattle.dc_talk.specs.declared.sent.Sent.{Sent}
use Rattle.dc_talk.specs.declared.settings.Settings.{Settings}
use Rattle.dc_talk.specs.Entries.{Entry}
use Rattle.dc_talk.specs.Sents.{items}
use Rattle.dc_talk.specs.Trails.{carried, carried_on, told, stopped, taught, taught_in, switched_in, Horizon, horizon}
use Rattle.dc_talk.specs.Answers.{hello_answer, refresh_answer, fetch_answer, told_of, delta_answer, commit_answer, send_answer, deliver_answer, tells, is_switch}
use Rattle.dc_centre.specs.Applied.{AppliedView, IsApplied}
use Rattle.dc_centre.specs.Outboxes.{row_of, Keeps}

-- its settings, what it keeps of the records that it applied, what it was told of the others, the vector up to which
-- the next prune folds, the vector up to which it let records go, the later ones of each origin in order, and whether it
-- is stopped
pub record CentreView : Type 0 where
  pub settings : Settings
  pub applied : AppliedView
  pub told : Table
  pub mark : List ℕ
  pub trimmed : List ℕ
  pub outbox : List (List Sent)
  pub down : Bool

-- what it holds of the records C that it applied
pub record Holds (c : CentreView) (C : List Sent) : Type 0 where
  pub applied : IsApplied c.settings.n c.applied (items C)
  pub outbox : Keeps c.settings.n c.outbox c.trimmed C

-- how far it has pruned
abbrev pub horizon_of : CentreView → Horizon
horizon_of c = record { base = c.applied.point.vector; mark = c.mark; trimmed = c.trimmed }

-- the centre stands for the trail: each part that it keeps is the trail's
pub record StandsFor (c : CentreView) (trail : List Entry) : Type 0 where
  pub holds : Holds c (carried c.settings.n trail)
  pub told : (j : ℕ) → j ≢ c.settings.me → 1 ≤ j → j ≤ c.settings.n → told_by c.told j ≡ told c.settings.n j trail
  pub pruned : horizon_of c ≡ horizon c.settings trail
  pub down : c.down ≡ stopped trail

-- a centre as it may be: it is one of its centres, what it will fold is stable and covers what is folded, and what it
-- let go all are known to have
pub record IsCentre (s : Settings) (x : AppliedView) (t : Table) (mark trimmed : List ℕ) : Type 0 where
  pub centre : (1 ≤ s.me) × (s.me ≤ s.n)
  pub few : s.n ≤ MOST_CENTRES
  pub known : (1 ≤ s.k) × (s.k ≤ s.n)
  pub most : s.limit ≤ MOST_RECORDS
  pub width : length x.counts ≡ s.n
  pub table : IsTable t
  pub same : (t.me ≡ s.me) × (t.n ≡ s.n) × (t.k ≡ s.k)
  pub room : at x.counts s.me ≤ s.limit
  pub marked : length mark ≡ s.n
  pub ahead : Covers mark x.point.vector
  pub stable : Covers (stable_of t x.counts) mark
  pub let_go : length trimmed ≡ s.n
  pub gone : Covers (all_known_of t x.counts) trimmed

-- its stable vector
abbrev pub stable_over : CentreView → List ℕ
stable_over c = stable_of c.told c.applied.counts

-- what all centres are known to have
abbrev pub known_over : CentreView → List ℕ
known_over c = all_known_of c.told c.applied.counts

-- how far it has let records go after a prune
abbrev pub trimmed_over : CentreView → List ℕ
trimmed_over c = join_of c.trimmed (known_over c)

-- the records of an origin after so many, and at most so many, over what it holds
abbrev pub part_over : CentreView → ℕ → ℕ → ℕ → List Sent
part_over c origin after most = take most (drop (after - at c.trimmed origin) (row_of c.outbox origin))

-- the snapshot at a vector, over what it holds
abbrev pub snap_over : CentreView → ℕ → List ℕ → Say
snap_over c client w = Snap w (mine_told c.applied.point c.applied.log client w) c.applied.greatest

-- the reply to an ask that fits, of a running centre, over what it holds
abbrev pub row_over : CentreView → Ask → Say
row_over c (Hello client need) = hello_answer c.applied.counts (number_of c.applied.lasts client) need
row_over c (Refresh client here) = refresh_answer c.applied.counts (snap_over c client (join_of here (stable_over c))) here
row_over c (Fetch object here) = fetch_answer c.applied.counts c.applied.point.vector (state_told c.applied.point c.applied.log object here) here
row_over c (Delta object from here) = delta_answer c.applied.counts c.applied.point.vector (told_of (ops_told c.applied.log object from here) (state_told c.applied.point c.applied.log object here)) from here
row_over c (Commit tx) = commit_answer c.settings c.applied.counts (number_of c.applied.lasts tx.dot.client) (at c.applied.counts c.settings.me) tx
row_over c (Send after most) = send_answer (at c.trimmed c.settings.me) (part_over c c.settings.me after most) after
row_over c (Deliver item hops) = deliver_answer c.settings c.applied.counts (at c.applied.counts item.stamp.centre) (number_of c.applied.lasts item.tx.dot.client) item
row_over c (Relay origin after most) = send_answer (at c.trimmed origin) (part_over c origin after most) after
row_over c Report = Vector c.applied.counts
row_over c (Learn from news) = Learned (tells c.settings.me (told_by c.told from) from news)
row_over c Prune = Base c.mark (count_told c.applied.point c.applied.log c.mark) (at (trimmed_over c) c.settings.me)
row_over c Stop = Stopped
row_over c Start = Started

-- the reply to an ask that fits
abbrev pub up_over : CentreView → Ask → Say
up_over c ask = cond (c.down && not (is_switch ask)) Down (row_over c ask)

-- how far it has pruned after an ask that it answered so
abbrev pub horizon_over : CentreView → Ask → Say → Horizon
horizon_over c Prune (Base vector folded trimmed) = record { base = c.mark; mark = stable_over c; trimmed = trimmed_over c }
horizon_over c _ _ = horizon_of c

-- the centre before and after an ask that it answered so
pub record Goes (old new : CentreView) (ask : Ask) (say : Say) : Type 0 where
  pub settings : new.settings ≡ old.settings
  pub holds : (C : List Sent) → Holds old C → Holds new (carried_on old.settings.n C ask say)
  pub told : (j : ℕ) → j ≢ old.settings.me → told_by new.told j ≡ taught j (told_by old.told j) (taught_in ask say)
  pub pruned : horizon_of new ≡ horizon_over old ask say
  pub down : new.down ≡ unwrap_or (switched_in ask say) old.down
