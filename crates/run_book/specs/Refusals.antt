-- How the asks of sessions are answered in a book.
use Rattle.std.specs.Prelude.{◌≡◌, ◌≢◌, ◌≤◌, ◌<◌, ◌-◌, ℕ, length, take, List, Some, slice_get}
use Rattle.vv_core.specs.Vectors.{at, Covers, IsFirstLack}
use Rattle.dc_talk.specs.declared.ask.Ask.{Ask}
use Rattle.dc_talk.specs.declared.ask.TheConstants.{MOST_SENT}
use Rattle.dc_talk.specs.declared.ask.Ask.TheVariants.{Refresh}
use Rattle.dc_talk.specs.declared.say.Say.{Say}
use Rattle.dc_talk.specs.declared.say.Say.TheVariants.{Misfit, Down, Lacks, Known, Full, Stamped, Trimmed, Records, Snap, Pruned, Object, Changes, Base}
use Rattle.dc_talk.specs.declared.calls.Connection.{Connection}
use Rattle.dc_talk.specs.declared.log.Fate.{Fate}
use Rattle.dc_talk.specs.declared.log.Fate.TheVariants.{Heard}
use Rattle.dc_talk.specs.declared.log.Deed.TheVariants.{Asked}
use Rattle.dc_talk.specs.declared.log.Note.{Note}
use Rattle.dc_talk.specs.Entries.{Entry}
use Rattle.dc_talk.specs.Records.{vector, guard}
use Rattle.dc_talk.specs.Trails.{Horizon}
use Rattle.dc_talk.specs.Rule.{Gives}
use Rattle.run_book.specs.declared.book.Book.{Book}
use Rattle.run_book.specs.Setups.{Setup}
use Rattle.run_book.specs.Parts.{trail_of, notes_of, applied_at, horizon_at, entries_by, exchanged, IsClient}
use Rattle.dc_talk.specs.Logs.{answered}
use Rattle.run_book.specs.Graphs.{client_at}

-- the entry stands in the trail of centre i
pub record IsEntry (b : Book) (i : ℕ) (entry : Entry) : Type 0 where
  pub centre : (1 ≤ i) × (i ≤ b.n)
  pub place : ℕ
  pub there : slice_get (trail_of b i) place ≡ Some entry

-- an ask with its answer: by which actor, at which note of its log, of which centre
pub record Exchange : Type 0 where
  pub actor : ℕ
  pub place : ℕ
  pub centre : ℕ
  pub ask : Ask
  pub answer : Say

-- a client makes the ask, which is one that the rule gives for the session's state and no copy of an earlier
-- one, and the centre answers so, heard or not
pub record Makes (b : Book) (setup : Setup) (x : Exchange) : Type 0 where
  pub client : IsClient setup x.actor
  pub note : Note
  pub there : slice_get (notes_of b x.actor) x.place ≡ Some note
  pub fate : Fate
  pub deed_is : note.deed ≡ Asked x.centre x.ask fate
  pub told : answered fate ≡ Some x.answer
  pub gives : Gives (client_at b setup x.actor x.place) x.centre x.ask

-- a client hears the answer to the ask
pub record Hears (b : Book) (setup : Setup) (x : Exchange) : Type 0 where
  pub client : IsClient setup x.actor
  pub note : Note
  pub there : slice_get (notes_of b x.actor) x.place ≡ Some note
  pub deed_is : note.deed ≡ Asked x.centre x.ask (Heard x.answer)

-- the answers to a push
abbrev pub IsPushAnswer : Say → Type 0
IsPushAnswer (Stamped stamp) = Unit {0}
IsPushAnswer (Known through) = Unit {0}
IsPushAnswer (Full limit) = Unit {0}
IsPushAnswer Down = Unit {0}
IsPushAnswer _ = ⊥

-- neither a misfit nor a refusal for what is lacking
pub record IsNoRefusal (say : Say) : Type 0 where
  pub fits : say ≢ Misfit
  pub lacks : (centre need have : ℕ) → say ≢ Lacks centre need have

-- the answers to a fetch at a vector, of a centre that keeps states from its base on: a state where the vector covers
-- the base, and else the least centre of which it does not
abbrev pub IsFetchAnswer : List ℕ → List ℕ → Say → Type 0
IsFetchAnswer base here (Object state) = Covers here base
IsFetchAnswer base here (Pruned centre high low) = IsFirstLack here base (record { centre = centre; need = high; have = low })
IsFetchAnswer base here Down = Unit {0}
IsFetchAnswer base here _ = ⊥

-- the exchange is that of a fetch at the vector, by the centre's base at its entry
pub record IsFetched (b : Book) (setup : Setup) (x : Exchange) (here : List ℕ) : Type 0 where
  pub place : ℕ
  pub there : slice_get (trail_of b x.centre) place ≡ Some (record { caller = x.actor; ask = x.ask; say = x.answer })
  pub answer : IsFetchAnswer (horizon_at b setup x.centre place).base here x.answer

-- the answers to a delta from a vector, of a centre that keeps states from its base on: what came since, or a state, where
-- the vector covers the base, and else the least centre of which it does not
abbrev pub IsDeltaAnswer : List ℕ → List ℕ → Say → Type 0
IsDeltaAnswer base from (Changes tail) = Covers from base
IsDeltaAnswer base from (Object state) = Covers from base
IsDeltaAnswer base from (Pruned centre high low) = IsFirstLack from base (record { centre = centre; need = high; have = low })
IsDeltaAnswer base from Down = Unit {0}
IsDeltaAnswer base from _ = ⊥

-- the exchange is that of a delta from the vector, by the centre's base at its entry
pub record IsToldSince (b : Book) (setup : Setup) (x : Exchange) (from : List ℕ) : Type 0 where
  pub place : ℕ
  pub there : slice_get (trail_of b x.centre) place ≡ Some (record { caller = x.actor; ask = x.ask; say = x.answer })
  pub answer : IsDeltaAnswer (horizon_at b setup x.centre place).base from x.answer

-- a relay among n centres is of one of these as origin, and asks for so many records as may be sent
pub record IsRelay (n origin most : ℕ) : Type 0 where
  pub range : (1 ≤ origin) × (origin ≤ n)
  pub few : (1 ≤ most) × (most ≤ MOST_SENT)

-- the answers to a send or a relay of what comes after so many of an origin's records, of a centre that let them go up to
-- a number: records where these are not among those, and else the number
abbrev pub IsSendAnswer : ℕ → ℕ → Say → Type 0
IsSendAnswer trimmed after (Records list) = trimmed ≤ after
IsSendAnswer trimmed after (Trimmed from) = (after < trimmed) × (from ≡ trimmed)
IsSendAnswer trimmed after Down = Unit {0}
IsSendAnswer trimmed after _ = ⊥

-- the answers to a prune, of a centre that had pruned so far, and now so far: the new base, which was the mark before,
-- and the new number up to which own records were let go; a stopped centre prunes nothing
abbrev pub IsPruneAnswer : ℕ → Horizon → Horizon → Say → Type 0
IsPruneAnswer me old new (Base vector folded trimmed) = (vector ≡ new.base) × (new.base ≡ old.mark) × (trimmed ≡ at new.trimmed me)
IsPruneAnswer me old new Down = new ≡ old
IsPruneAnswer me old new _ = ⊥

-- a client hears the answer to a refresh, a snapshot with so many of its commits
pub record HearsRefresh (b : Book) (setup : Setup) (x : Exchange) (number : ℕ) : Type 0 where
  pub heard : Hears b setup x
  pub client : ℕ
  pub here : List ℕ
  pub refresh : x.ask ≡ Refresh client here
  pub snap : List ℕ
  pub top : ℕ
  pub snapshot : x.answer ≡ Snap snap number top

-- a book is timely: no snapshot that a session hears has more of the session's commits than it had made
pub record IsTimely (b : Book) (setup : Setup) : Type 0 where
  pub no_more : (x : Exchange) (number : ℕ) → HearsRefresh b setup x number → number ≤ (client_at b setup x.actor x.place).own

-- after some entries of the linked centre's trail, of which no more are actor a's than the asks that
-- reached it from the notes X of the actor's log, the centre has what the vector covers, and the client's
-- commits up to the link's number
pub record IsReached (b : Book) (a : ℕ) (X : List Note) (v : List ℕ) (link : Connection) : Type 0 where
  pub low : 1 ≤ link.centre
  pub high : link.centre ≤ b.n
  pub place : ℕ
  pub few : length (entries_by a (take place (trail_of b link.centre))) ≤ length (exchanged link.centre X)
  pub covered : Covers (vector b.n (applied_at b link.centre place)) v
  pub sent : link.sent ≤ guard (a - 1) (applied_at b link.centre place)
