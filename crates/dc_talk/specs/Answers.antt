-- The answer of a centre to an ask, from its whole trail.
use Rattle.std.specs.Prelude.{◌≡◌, ℕ, ◌+◌, Bool, true, false, ◌&&◌, ◌||◌, not, cond, nat_le, ◌==◌, length, take, drop, filter, List, [], ◌∷◌, Option, is_none}
use Rattle.std.specs.List.{list_all}
use Rattle.std.specs.Option.{option_map}
use Rattle.list_core.specs.Choices.{when, first_of}
use Rattle.ids_core.specs.declared.limits.TheConstants.{MOST_CLIENTS, MOST_RECORDS}
use Rattle.ids_core.specs.declared.ids.Mark.{Mark}
use Rattle.vv_core.specs.Vectors.{at, join_of, lack_of, covers}
use Rattle.tx_core.specs.declared.op.Op.{Op}
use Rattle.tx_core.specs.declared.tx.Tx.{Tx}
use Rattle.tx_core.specs.declared.tx.Record.{Record}
use Rattle.tx_core.specs.declared.state.State.{State}
use Rattle.tx_core.specs.Checks.{is_within, fault_of}
use Rattle.dc_talk.specs.declared.ask.TheConstants.{MOST_SENT, MOST_HOPS, MOST_CHANGES}
use Rattle.dc_talk.specs.declared.ask.Ask.{Ask}
use Rattle.dc_talk.specs.declared.ask.Ask.TheVariants.{Hello, Refresh, Fetch, Delta, Commit, Send, Deliver, Relay, Report, Learn, Prune, Stop, Start}
use Rattle.dc_talk.specs.declared.say.Say.{Say}
use Rattle.dc_talk.specs.declared.say.Say.TheVariants.{Misfit, Down, Lacks, Welcome, Snap, Pruned, Object, Changes, Known, OutOfOrder, Full, Stamped, Trimmed, Records, Old, Gap, Waits, Orphan, Applied, Vector, Learned, Base, Stopped, Started}
use Rattle.machine_trail.specs.History.{IsHistory}
use Rattle.dc_talk.specs.declared.sent.Sent.{Sent}
use Rattle.dc_talk.specs.declared.settings.Settings.{Settings}
use Rattle.dc_talk.specs.Entries.{Entry}
use Rattle.dc_talk.specs.Records.{count, vector, guard, top, inside, mine, has, firsts}
use Rattle.dc_talk.specs.Sents.{of_origin}
use Rattle.dc_talk.specs.Objects.{state_at, ops_since}
use Rattle.dc_talk.specs.Clients.{same_vector}
use Rattle.dc_talk.specs.Trails.{carried, applied, told, stable, horizon, pruned, stopped}

-- no entry of the vector is above the most records of a centre
abbrev pub are_modest : List ℕ → Bool
are_modest v = list_all (λ entry. nat_le entry MOST_RECORDS) v

-- the record can be delivered to a centre among n
abbrev pub is_fit_item : ℕ → Record → Bool
is_fit_item n item = is_within 1 n item.stamp.centre && is_within 1 MOST_RECORDS item.stamp.seq && (length item.deps == n) && are_modest item.deps && is_none (fault_of n item.tx)

-- the ask can be made of a centre among n
abbrev pub fits : ℕ → Ask → Bool
fits n (Hello client need) = is_within 1 MOST_CLIENTS client && (length need == n)
fits n (Refresh client here) = is_within 1 MOST_CLIENTS client && (length here == n)
fits n (Fetch object here) = length here == n
fits n (Delta object from here) = (length from == n) && ((length here == n) && covers here from)
fits n (Commit tx) = is_none (fault_of n tx)
fits n (Send after most) = is_within 1 MOST_SENT most
fits n (Deliver item hops) = is_fit_item n item && nat_le hops MOST_HOPS
fits n (Relay origin after most) = is_within 1 n origin && is_within 1 MOST_SENT most
fits n Report = true
fits n Prune = true
fits n (Learn from news) = is_within 1 n from && (length news == n) && are_modest news
fits n Stop = true
fits n Start = true

-- the refusal that names the least centre of which records are missing, with how many are needed and how
-- many are there, where some are
abbrev pub lacking : (ℕ → ℕ → ℕ → Say) → List ℕ → List ℕ → Option Say
lacking refuse have need = option_map (λ lack. refuse lack.centre lack.need lack.have) (lack_of have need)

-- to a hello, of a centre that has so many records, and the client's transactions up to a number
abbrev pub hello_answer : List ℕ → ℕ → List ℕ → Say
hello_answer have through need = first_of (lacking Lacks have need ∷ []) (Welcome through)

-- to a refresh, with the snapshot
abbrev pub refresh_answer : List ℕ → Say → List ℕ → Say
refresh_answer have snap here = first_of (lacking Lacks have here ∷ []) snap

-- to a fetch, of a centre with this base, with the state
abbrev pub fetch_answer : List ℕ → List ℕ → State → List ℕ → Say
fetch_answer have base state here = first_of (lacking Lacks have here ∷ lacking Pruned here base ∷ []) (Object state)

-- what is told of an object: the operations, where they are few, else the state
abbrev pub told_of : List (Mark × Op) → State → Say
told_of ops state = cond (nat_le (length ops) MOST_CHANGES) (Changes ops) (Object state)

-- to a delta, of a centre with this base, with what is told of the object
abbrev pub delta_answer : List ℕ → List ℕ → Say → List ℕ → List ℕ → Say
delta_answer have base told from here = first_of (lacking Lacks have here ∷ lacking Pruned from base ∷ []) told

-- to a commit, of a centre that has the client's transactions up to a number, and has stamped so many
abbrev pub commit_answer : Settings → List ℕ → ℕ → ℕ → Tx → Say
commit_answer s have through stamped tx = first_of (
    when (nat_le tx.dot.number through) (Known through)
    ∷ when (nat_le (through + 2) tx.dot.number) (OutOfOrder through)
    ∷ lacking Lacks have tx.snap
    ∷ when (nat_le s.limit stamped) (Full s.limit)
    ∷ []) (Stamped (record { centre = s.me; seq = stamped + 1 }))

-- to a send or a relay, of a centre that has let the records of the origin go up to a number, with those that are asked
-- for
abbrev pub send_answer : ℕ → List Sent → ℕ → Say
send_answer trimmed asked after = first_of (when (nat_le (after + 1) trimmed) (Trimmed trimmed) ∷ []) (Records asked)

-- to a delivery, of a centre that has so many records of its origin, and its client's transactions up to a number
abbrev pub deliver_answer : Settings → List ℕ → ℕ → ℕ → Record → Say
deliver_answer s have counted through item = first_of (
    when (nat_le item.stamp.seq counted) (Old counted)
    ∷ when (nat_le (counted + 2) item.stamp.seq || (item.stamp.centre == s.me)) (Gap counted)
    ∷ lacking Waits have item.deps
    ∷ when (nat_le (through + 2) item.tx.dot.number) (Orphan item.tx.dot.number through)
    ∷ []) (Applied (item.tx.dot.number == through + 1))

-- the snapshot at a vector
abbrev pub snap_at : List Record → ℕ → List ℕ → Say
snap_at A client w = Snap w (mine client (inside A w)) (top A)

-- the records of an origin after so many, and at most so many, with their hops
abbrev pub part_of : ℕ → List Sent → ℕ → ℕ → List Sent
part_of e C after most = take most (drop after (of_origin e C))

-- how many transactions have a stamp within the vector
abbrev pub count_inside : List Record → List ℕ → ℕ
count_inside A w = length (filter (λ r. has r.tx.dot (inside A w)) (firsts A))

-- whether a row is changed by a vector of centre e, at centre me
abbrev pub tells : ℕ → List ℕ → ℕ → List ℕ → Bool
tells me row e news = not (e == me) && not (same_vector (join_of row news) row)

-- to an ask that fits, of a running centre
abbrev pub row : Settings → List Entry → Ask → Say
row s trail (Hello client need) = hello_answer (vector s.n (applied s.n trail)) (guard client (applied s.n trail)) need
row s trail (Refresh client here) = refresh_answer (vector s.n (applied s.n trail)) (snap_at (applied s.n trail) client (join_of here (stable s trail))) here
row s trail (Fetch object here) = fetch_answer (vector s.n (applied s.n trail)) (horizon s trail).base (state_at object (applied s.n trail) here) here
row s trail (Delta object from here) = delta_answer (vector s.n (applied s.n trail)) (horizon s trail).base (told_of (ops_since object (applied s.n trail) from here) (state_at object (applied s.n trail) here)) from here
row s trail (Commit tx) = commit_answer s (vector s.n (applied s.n trail)) (guard tx.dot.client (applied s.n trail)) (count s.me (applied s.n trail)) tx
row s trail (Send after most) = send_answer (at (horizon s trail).trimmed s.me) (part_of s.me (carried s.n trail) after most) after
row s trail (Deliver item hops) = deliver_answer s (vector s.n (applied s.n trail)) (count item.stamp.centre (applied s.n trail)) (guard item.tx.dot.client (applied s.n trail)) item
row s trail (Relay origin after most) = send_answer (at (horizon s trail).trimmed origin) (part_of origin (carried s.n trail) after most) after
row s trail Report = Vector (vector s.n (applied s.n trail))
row s trail (Learn from news) = Learned (tells s.me (told s.n from trail) from news)
row s trail Prune = Base (horizon s trail).mark (count_inside (applied s.n trail) (horizon s trail).mark) (at (pruned s trail (horizon s trail)).trimmed s.me)
row s trail Stop = Stopped
row s trail Start = Started

-- a stopped centre answers it
abbrev pub is_switch : Ask → Bool
is_switch Stop = true
is_switch Start = true
is_switch _ = false

-- the answer of a centre with these settings to an ask after the trail
unfoldable pub answer : Settings → List Entry → Ask → Say
answer s trail ask = cond (fits s.n ask) (cond (stopped trail && not (is_switch ask)) Down (row s trail ask)) Misfit

-- the reply to an ask after the trail is the centre's
abbrev pub IsAnswer : Settings → List Entry → Ask → Say → Type 0
IsAnswer s trail ask say = say ≡ answer s trail ask

-- a history of the one-thread centre: each answer is the one after the entries before it
abbrev pub History : Settings → List Entry → Type 0
History s trail = IsHistory (IsAnswer s) trail
