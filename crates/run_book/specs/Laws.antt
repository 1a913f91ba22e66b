-- What holds of every book that fits.
use Rattle.std.specs.Prelude.{◌≡◌, ◌≢◌, ◌≤◌, ◌<◌, ◌↔◌, ℕ, ◌+◌, ◌-◌, true, take, List, [], Some, slice_get}
use Rattle.list_core.specs.Members.{In}
use Rattle.ids_core.specs.declared.ids.Dot.{Dot}
use Rattle.ids_core.specs.declared.object.ObjectId.{ObjectId}
use Rattle.vv_core.specs.declared.stamp.Stamp.{Stamp}
use Rattle.vv_core.specs.Vectors.{at, Covers, within, IsFirstLack}
use Rattle.tx_core.specs.declared.tx.Tx.{Tx}
use Rattle.tx_core.specs.declared.tx.Record.{Record}
use Rattle.tx_core.specs.declared.state.Value.{Value}
use Rattle.dc_talk.specs.declared.ask.TheConstants.{MOST_SENT}
use Rattle.dc_talk.specs.declared.ask.Ask.TheVariants.{Fetch, Delta, Send, Relay, Prune}
use Rattle.dc_talk.specs.declared.say.Say.TheVariants.{Misfit, Snap, Pruned}
use Rattle.dc_talk.specs.Entries.{Entry}
use Rattle.dc_talk.specs.Records.{vector, count, own, inside}
use Rattle.dc_talk.specs.declared.sent.Sent.{Sent}
use Rattle.dc_talk.specs.Trails.{carried, told, rows, stable}
use Rattle.dc_talk.specs.Clients.{draft_updates}
use Rattle.dc_talk.specs.Rule.{takes}
use Rattle.run_book.specs.declared.book.Book.{Book}
use Rattle.tx_graph.specs.Nodes.{Within, Closed, WellMade}
use Rattle.run_book.specs.Setups.{Setup, centre_settings}
use Rattle.run_book.specs.Parts.{trail_of, applied_at, horizon_at, IsClient}
use Rattle.tx_graph.specs.Values.{IsValueOver}
use Rattle.run_book.specs.Graphs.{own_list, cover, graph, basis_at, client_at, commits_at}
use Rattle.run_book.specs.Sound.{IsSound}
use Rattle.run_book.specs.Known.{HasMoment, IsKnown, IsKnownToAll, WasKnownBy}
use Rattle.run_book.specs.Causal.{ValueRead, Reads, IsValueAt}
use Rattle.run_book.specs.Refusals.{IsEntry, Exchange, IsRelay, IsSendAnswer, IsPruneAnswer, HearsRefresh, IsTimely}

-- the vectors of the book are sound at each moment: those of the centres, what centres told one
-- another, the stable vectors, those up to which centres folded and will fold, the snapshots that were answered, and
-- those of the sessions
pub record HasSoundVectors (b : Book) (setup : Setup) : Type 0 where
  pub centres : (i p : ℕ) → 1 ≤ i → i ≤ b.n → IsSound b (vector b.n (applied_at b i p))
  pub told_rows : (i j p : ℕ) → 1 ≤ i → i ≤ b.n → IsSound b (told b.n j (take p (trail_of b i)))
  pub stable_vectors : (i p : ℕ) → 1 ≤ i → i ≤ b.n → IsSound b (stable (centre_settings b setup i) (take p (trail_of b i)))
  pub bases : (i p : ℕ) → 1 ≤ i → i ≤ b.n → IsSound b (horizon_at b setup i p).base
  pub marks : (i p : ℕ) → 1 ≤ i → i ≤ b.n → IsSound b (horizon_at b setup i p).mark
  pub snapshots : (i p : ℕ) (entry : Entry) (w : List ℕ) (mine top : ℕ) → 1 ≤ i → i ≤ b.n → slice_get (trail_of b i) p ≡ Some entry → entry.say ≡ Snap w mine top → IsSound b w
  pub sessions : (a m : ℕ) → IsClient setup a → IsSound b (client_at b setup a m).vector

-- all centres have one list of each centre's records: what a centre has applied of them is the front of
-- it; within a vector that a centre can serve it has what the vector covers; and records of one dot
-- carry one transaction, wherever they were stamped
pub record HasOneList (b : Book) : Type 0 where
  pub fronts : (i p e : ℕ) → 1 ≤ i → i ≤ b.n → own e (applied_at b i p) ≡ take (count e (applied_at b i p)) (own_list b e)
  pub served : (i p : ℕ) (w : List ℕ) (d : Dot) → 1 ≤ i → i ≤ b.n → Covers (vector b.n (applied_at b i p)) w → In d (inside (applied_at b i p) w) ↔ In d (cover b w)
  pub carried : (i p j q : ℕ) (r s : Record) → 1 ≤ i → i ≤ b.n → 1 ≤ j → j ≤ b.n → In r (applied_at b i p) → In s (applied_at b j q) → r.tx.dot ≡ s.tx.dot → r.tx ≡ s.tx

-- the graph is well made, and the basis of each read is closed in it
pub record HasClosedBases (b : Book) (setup : Setup) : Type 0 where
  pub made : WellMade (graph b setup)
  pub bases : (read : ValueRead) → Reads b setup read → Closed (graph b setup) (basis_at b setup read.actor read.place)

-- the basis of a read holds those of the session's earlier reads, and all that the session committed;
-- of the session's own numbers its vector covers just those up to the one that the snapshot names
pub record KeepsSessions (b : Book) (setup : Setup) : Type 0 where
  pub earlier : (read later : ValueRead) → Reads b setup read → Reads b setup later → read.actor ≡ later.actor → read.place ≤ later.place → Within (basis_at b setup read.actor read.place) (basis_at b setup later.actor later.place)
  pub commits : (a m : ℕ) (t : Tx) → IsClient setup a → In t (commits_at b setup a m) → In t.dot (basis_at b setup a m)
  pub own_numbers : (a m number : ℕ) → IsClient setup a → In (record { client = a - 1; number = number }) (cover b (client_at b setup a m).vector) ↔ ((1 ≤ number) × (number ≤ (client_at b setup a m).mine))

-- each member of a basis that is not the session's own was known to K centres at a snapshot that the
-- session had heard; and each centre whose row was counted there had the stamp at a moment of its own trail
pub record HasKnownBases (b : Book) (setup : Setup) : Type 0 where
  pub bases : (read : ValueRead) (d : Dot) → Reads b setup read → In d (basis_at b setup read.actor read.place) → d.client ≢ read.actor - 1 → IsKnown b setup read.actor read.place d
  pub moments : (i p j : ℕ) (row : List ℕ) (stamp : Stamp) → 1 ≤ i → i ≤ b.n → slice_get (rows (centre_settings b setup i) (take p (trail_of b i))) j ≡ Some row → within stamp row ≡ true → HasMoment b (j + 1) stamp

-- each value that was read is that of its object over the basis and the open updates, by which update
-- sees which; it is the only such value; and over every closed set there is one, and over every set at most one
pub record HasValues (b : Book) (setup : Setup) : Type 0 where
  pub reads : (read : ValueRead) → Reads b setup read → IsValueAt b setup read
  pub one : (read : ValueRead) (other : Value) → IsClient setup read.actor → IsValueAt b setup read → IsValueAt b setup (record read { value = other }) → read.value ≡ other
  pub over_sets : (set : List Dot) (o : ObjectId) → Closed (graph b setup) set → (value : Value) × IsValueOver (graph b setup) set o value
  pub one_over_sets : (set : List Dot) (o : ObjectId) (value other : Value) → IsValueOver (graph b setup) set o value → IsValueOver (graph b setup) set o other → value ≡ other

-- two reads of one object over equal bases, with nothing open, give one value, whichever sessions read
-- and whichever centres served them
pub record Agrees (b : Book) (setup : Setup) : Type 0 where
  pub reads : (read other : ValueRead) → Reads b setup read → Reads b setup other → read.object ≡ other.object → Within (basis_at b setup read.actor read.place) (basis_at b setup other.actor other.place) → Within (basis_at b setup other.actor other.place) (basis_at b setup read.actor read.place) → draft_updates (client_at b setup read.actor read.place) ≡ [] → draft_updates (client_at b setup other.actor other.place) ≡ [] → read.value ≡ other.value

-- a session takes each snapshot that it hears which has no more of its commits than it had made, and no
-- other; so in a timely book it takes all that it hears
pub record TakesSnapshots (b : Book) (setup : Setup) : Type 0 where
  pub exact : (x : Exchange) (number : ℕ) → HearsRefresh b setup x number → (takes (client_at b setup x.actor x.place) x.centre x.ask x.answer ≡ true) ↔ (number ≤ (client_at b setup x.actor x.place).own)
  pub timely : IsTimely b setup → (x : Exchange) (number : ℕ) → HearsRefresh b setup x number → takes (client_at b setup x.actor x.place) x.centre x.ask x.answer ≡ true

-- what is pruned is known: what a centre folded, it has, and knew K centres to have; what it let go, of whatever origin,
-- every centre has had, and each other one reported so; a fetch is refused for what is folded with the least centre of which
-- the base is above its vector, and both numbers, and a delta with the least one of which the base is above the vector from
-- which it goes; a send or a relay that asks for what was let go is answered with the
-- number up to which all was, and every other one that fits with records, where the centre runs; and a prune is answered
-- with how far the centre then has pruned
pub record KnowsPruned (b : Book) (setup : Setup) : Type 0 where
  pub folded : (i p : ℕ) (stamp : Stamp) → 1 ≤ i → i ≤ b.n → 1 ≤ stamp.seq → stamp.seq ≤ at (horizon_at b setup i p).base stamp.centre → WasKnownBy (centre_settings b setup i) (take p (trail_of b i)) stamp
  pub held : (i p : ℕ) → 1 ≤ i → i ≤ b.n → Covers (vector b.n (applied_at b i p)) (horizon_at b setup i p).base
  pub let_go : (i p : ℕ) (stamp : Stamp) → 1 ≤ i → i ≤ b.n → 1 ≤ stamp.seq → stamp.seq ≤ at (horizon_at b setup i p).trimmed stamp.centre → IsKnownToAll b i stamp
  pub refused : (i : ℕ) (o : ObjectId) (here : List ℕ) (centre high low : ℕ) (entry : Entry) (stands : IsEntry b i entry) → entry.ask ≡ Fetch o here → entry.say ≡ Pruned centre high low → IsFirstLack here (horizon_at b setup i stands.place).base (record { centre = centre; need = high; have = low })
  pub refused_deltas : (i : ℕ) (o : ObjectId) (from here : List ℕ) (centre high low : ℕ) (entry : Entry) (stands : IsEntry b i entry) → entry.ask ≡ Delta o from here → entry.say ≡ Pruned centre high low → IsFirstLack from (horizon_at b setup i stands.place).base (record { centre = centre; need = high; have = low })
  pub sends : (i after most : ℕ) (entry : Entry) (stands : IsEntry b i entry) → entry.ask ≡ Send after most → (1 ≤ most) × (most ≤ MOST_SENT) → IsSendAnswer (at (horizon_at b setup i stands.place).trimmed i) after entry.say
  pub misfits : (i after most : ℕ) (entry : Entry) → IsEntry b i entry → entry.ask ≡ Send after most → (entry.say ≡ Misfit) ↔ ((1 ≤ most) × (most ≤ MOST_SENT) → ⊥)
  pub relays : (i origin after most : ℕ) (entry : Entry) (stands : IsEntry b i entry) → entry.ask ≡ Relay origin after most → IsRelay b.n origin most → IsSendAnswer (at (horizon_at b setup i stands.place).trimmed origin) after entry.say
  pub relay_misfits : (i origin after most : ℕ) (entry : Entry) → IsEntry b i entry → entry.ask ≡ Relay origin after most → (entry.say ≡ Misfit) ↔ (IsRelay b.n origin most → ⊥)
  pub prunes : (i : ℕ) (entry : Entry) (stands : IsEntry b i entry) → entry.ask ≡ Prune → IsPruneAnswer i (horizon_at b setup i stands.place) (horizon_at b setup i (stands.place + 1)) entry.say

-- no record that a centre has applied came there by as many deliveries as there are centres
pub record HasFewHops (b : Book) : Type 0 where
  pub below : (i p : ℕ) (x : Sent) → 1 ≤ i → i ≤ b.n → In x (carried b.n (take p (trail_of b i))) → x.hops < b.n
