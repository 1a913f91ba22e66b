-- What happens among several centres and their callers, as one list.
use Rattle.std.specs.Prelude.{◌≡◌, ◌≢◌, ℕ, ◌+◌, ◌*◌, ◌≤◌, ◌⊎◌, cond, ◌==◌, length, take, map, slice_get, List, [], ◌∷◌, ◌++◌, Option, Some, None}
use Rattle.std.specs.List.{filter_map}
use Rattle.list_core.specs.Members.{In}
use Rattle.list_core.specs.Moments.{Each}
use Rattle.ids_core.specs.declared.limits.TheConstants.{MOST_CENTRES, MOST_CLIENTS, MOST_RECORDS}
use Rattle.vv_core.specs.Vectors.{at}
use Rattle.dc_talk.specs.declared.sent.Sent.{Sent}
use Rattle.dc_talk.specs.Sents.{with_hops}
use Rattle.dc_talk.specs.declared.ask.Ask.{Ask}
use Rattle.dc_talk.specs.declared.ask.Ask.TheVariants.{Fetch, Send, Deliver, Relay, Report, Learn, Prune, Stop, Start}
use Rattle.dc_talk.specs.declared.say.Say.{Say}
use Rattle.dc_talk.specs.declared.say.Say.TheVariants.{Trimmed, Records, Vector}
use Rattle.dc_talk.specs.declared.calls.Connection.{Connection}
use Rattle.dc_talk.specs.declared.log.Fate.{Fate}
use Rattle.dc_talk.specs.declared.log.Deed.{Deed}
use Rattle.dc_talk.specs.declared.log.Deed.TheVariants.{Did, Asked, Told, Spoilt}
use Rattle.dc_talk.specs.declared.log.Note.{Note}
use Rattle.dc_talk.specs.Entries.{Entry}
use Rattle.dc_talk.specs.Logs.{answered, entry_made, entries_made}
use Rattle.dc_talk.specs.Records.{vector}
use Rattle.dc_talk.specs.Trails.{applied}
use Rattle.dc_talk.specs.Answers.{History}
use Rattle.dc_talk.specs.Clients.{Client}
use Rattle.dc_talk.specs.Rule.{Allows, after, client_after}
use Rattle.run_book.specs.declared.book.Book.{Book}
use Rattle.run_book.specs.Setups.{Setup, settings_among}
use Rattle.run_book.specs.Parts.{trail_of, log_of, notes_of}

-- ---- one list

-- a note, with the actor that made it
pub record Happened : Type 0 where
  pub actor : ℕ
  pub note : Note

-- the note, where it is the actor's
abbrev pub note_by : ℕ → Happened → Option Note
note_by a h = cond (h.actor == a) (Some h.note) None

-- the notes of an actor among what happened, in order
abbrev pub notes_by : ℕ → List Happened → List Note
notes_by a all = filter_map (note_by a) all

-- the entry that it made in the trail of centre i, where it was an ask that reached that centre
abbrev pub entry_in : ℕ → Happened → Option Entry
entry_in i h = entry_made h.actor i h.note.deed

-- the trail of centre i after what happened
abbrev pub trail_in : ℕ → List Happened → List Entry
trail_in i all = filter_map (entry_in i) all

-- the trails of all centres, each by its number
abbrev pub trails_in : List Happened → ℕ → List Entry
trails_in all i = trail_in i all

-- an actor noted this, one after another
abbrev pub happening : ℕ → List Note → List Happened
happening actor notes = map (λ note. record { actor = actor; note = note }) notes

-- ---- what an actor may do

-- an ask goes to one of n centres
abbrev pub GoesToOneOf : ℕ → Deed → Type 0
GoesToOneOf n (Asked i ask fate) = (1 ≤ i) × (i ≤ n)
GoesToOneOf n _ = Unit {0}

-- a link, where there is one, is to one of n centres
abbrev pub IsLinkWithin : ℕ → Option Connection → Type 0
IsLinkWithin n None = Unit {0}
IsLinkWithin n (Some link) = (1 ≤ link.centre) × (link.centre ≤ n)

-- an answer stands in the trail, whoever asked and whether or not it was heard
pub record HasAnswer (trail : List Entry) (say : Say) : Type 0 where
  pub entry : Entry
  pub there : In entry trail
  pub says : entry.say ≡ say

-- the record stands with its hops in an answer of some centre
pub record WasSent (trails : ℕ → List Entry) (item : Sent) : Type 0 where
  pub centre : ℕ
  pub list : List Sent
  pub answer : HasAnswer (trails centre) (Records list)
  pub has : In item list

-- what the operator and the workers ask: what they deliver was sent, what they teach was reported, and they ask for
-- no session, but they may fetch
abbrev pub CarrierAsks : (ℕ → List Entry) → Ask → Type 0
CarrierAsks trails (Deliver item hops) = WasSent trails (with_hops item hops)
CarrierAsks trails (Learn from news) = HasAnswer (trails from) (Vector news)
CarrierAsks trails (Send after most) = Unit {0}
CarrierAsks trails (Relay origin after most) = Unit {0}
CarrierAsks trails Report = Unit {0}
CarrierAsks trails Prune = Unit {0}
CarrierAsks trails (Fetch object vector) = Unit {0}
CarrierAsks trails Stop = Unit {0}
CarrierAsks trails Start = Unit {0}
CarrierAsks trails _ = ⊥

-- a deed of the operator or of a worker, where the centres have these trails; that an item was no record each may note
abbrev pub CarrierAllows : (ℕ → List Entry) → Deed → Type 0
CarrierAllows trails (Did call outcome) = ⊥
CarrierAllows trails (Asked i ask fate) = CarrierAsks trails ask
CarrierAllows trails (Told line) = Unit {0}
CarrierAllows trails (Spoilt from item why) = Unit {0}

-- a client that is so, and has these notes, notes more, one after another, by the session rule
abbrev pub ClientDoes : Client → List Note → List Note → Type 0
ClientDoes s before [] = Unit {0}
ClientDoes s before (note ∷ more) = Allows s before note.deed × ClientDoes (after s note.deed) (before ++ note ∷ []) more

-- the trails after a deed of an actor
abbrev pub trails_after : ℕ → Deed → (ℕ → List Entry) → ℕ → List Entry
trails_after actor deed trails i = trails i ++ entries_made actor i (deed ∷ [])

-- the operator or a worker notes more, one after another, where the centres have these trails
abbrev pub CarrierDoes : ℕ → (ℕ → List Entry) → List Note → Type 0
CarrierDoes actor trails [] = Unit {0}
CarrierDoes actor trails (note ∷ more) = CarrierAllows trails note.deed × CarrierDoes actor (trails_after actor note.deed trails) more

-- ---- what may happen next

-- it is a client's, by the session rule
pub record ByClient (n : ℕ) (setup : Setup) (before : List Happened) (one : Happened) : Type 0 where
  pub client : ℕ
  pub range : (1 ≤ client) × (client ≤ setup.clients)
  pub actor : one.actor ≡ client + 1
  pub allowed : Allows (client_after n client setup.capacity (notes_by one.actor before)) (notes_by one.actor before) one.note.deed

-- the operator, or one of the four workers of each of n centres
pub record IsCarrier (n clients actor : ℕ) : Type 0 where
  pub who : (actor ≡ 1) ⊎ ((clients + 2 ≤ actor) × (actor ≤ 1 + clients + 4 * n))

-- it is the operator's or a worker's
pub record ByCarrier (n : ℕ) (setup : Setup) (before : List Happened) (one : Happened) : Type 0 where
  pub carrier : IsCarrier n setup.clients one.actor
  pub allowed : CarrierAllows (trails_in before) one.note.deed

-- this may happen next among n centres
pub record Happens (n : ℕ) (setup : Setup) (before : List Happened) (one : Happened) : Type 0 where
  pub reach : GoesToOneOf n one.note.deed
  pub by : ByClient n setup before one ⊎ ByCarrier n setup before one

-- after what happened each trail is a history of its centre
abbrev pub AreHistories : ℕ → ℕ → Setup → List Happened → Type 0
AreHistories n k setup all = (i : ℕ) → 1 ≤ i → i ≤ n → History (settings_among n k setup i) (trail_in i all)

-- this happened, in this order, among n centres, of which k have to know an update before it is stable: each trail is
-- a history of its centre, and each actor did what it may
pub record AreTogether (n k : ℕ) (setup : Setup) (all : List Happened) : Type 0 where
  pub histories : AreHistories n k setup all
  pub each : Each (Happens n setup) all

-- the ask, of a centre, is for the records of this origin behind this number
abbrev pub AsksFor : ℕ → ℕ → ℕ → Ask → Type 0
AsksFor i origin after (Send low most) = (origin ≡ i) × (after ≡ low)
AsksFor i origin after (Relay from low most) = (origin ≡ from) × (after ≡ low)
AsksFor i origin after _ = ⊥

-- a centre that answers that an origin's records were let go up to a number does so when every centre has them; so it
-- never answers that where it is asked for those that another centre lacks, by the report of this one just before
pub record TrimsInTime (n : ℕ) (all : List Happened) : Type 0 where
  pub had : (p i origin after number j : ℕ) (h : Happened) (ask : Ask) (fate : Fate) → slice_get all p ≡ Some h → h.note.deed ≡ Asked i ask fate → AsksFor i origin after ask → answered fate ≡ Some (Trimmed number) → 1 ≤ j → j ≤ n → number ≤ at (vector n (applied n (trail_in j (take p all)))) origin
  pub asked : (p from origin to number : ℕ) (first second : Happened) (v : List ℕ) (ask : Ask) (fate other : Fate) → slice_get all p ≡ Some first → slice_get all (p + 1) ≡ Some second → first.note.deed ≡ Asked to Report fate → answered fate ≡ Some (Vector v) → second.note.deed ≡ Asked from ask other → AsksFor from origin (at v origin) ask → answered other ≢ Some (Trimmed number)

-- ---- the book of it

-- the numbers of a run are in range
pub record InRange (n k : ℕ) (setup : Setup) : Type 0 where
  pub n_range : (1 ≤ n) × (n ≤ MOST_CENTRES)
  pub k_range : (1 ≤ k) × (k ≤ n)
  pub clients_range : (1 ≤ setup.clients) × (setup.clients ≤ MOST_CLIENTS)
  pub limit_range : (1 ≤ setup.limit) × (setup.limit ≤ MOST_RECORDS)
  pub capacity_range : 1 ≤ setup.capacity

-- the book of what happened among n centres and so many clients: a trail for each centre, and a log for each actor
pub record IsBookOf (b : Book) (n k clients : ℕ) (all : List Happened) : Type 0 where
  pub n_is : b.n ≡ n
  pub k_is : b.k ≡ k
  pub trail_count : length b.trails ≡ n
  pub log_count : length b.logs ≡ 1 + clients + 4 * n
  pub trails : (i : ℕ) → 1 ≤ i → i ≤ n → trail_of b i ≡ trail_in i all
  pub actors : (a : ℕ) → 1 ≤ a → a ≤ 1 + clients + 4 * n → (log_of b a).actor ≡ a
  pub notes : (a : ℕ) → 1 ≤ a → a ≤ 1 + clients + 4 * n → notes_of b a ≡ notes_by a all
