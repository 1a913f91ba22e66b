-- What the answer to a client's ask tells of the ask and of what was applied before it.
use Rattle.std.proofs.Common.{◌≡◌, ℕ, ◌+◌, ◌≤◌, ◌<◌, true, List, length, refl, sym, ap, ◌∙◌, arith}
use Rattle.std.proofs.lemmas.Bool.{and_parts, leb-true, leb-false, eqb-true, false≢true}
use Rattle.list_core.proofs.Choices.{is_none_true, when_none, when_holds}
use Rattle.ids_core.specs.declared.ids.Mark.{Mark}
use Rattle.ids_core.specs.declared.object.ObjectId.{ObjectId}
use Rattle.vv_core.specs.declared.stamp.Stamp.{Stamp}
use Rattle.vv_core.specs.Vectors.{Covers, join_of}
use Rattle.vv_core.proofs.Covering.{covers-true}
use Rattle.tx_core.specs.declared.op.Op.{Op}
use Rattle.tx_core.specs.declared.tx.Tx.{Tx}
use Rattle.tx_core.specs.declared.tx.Record.{Record}
use Rattle.tx_core.specs.declared.state.State.{State}
use Rattle.tx_core.specs.Checks.{fault_of, IsFit}
use Rattle.tx_core.proofs.Fits.{fault_of-none}
use Rattle.dc_talk.specs.declared.ask.Ask.{Ask}
use Rattle.dc_talk.specs.declared.ask.Ask.TheVariants.{Hello, Refresh, Fetch, Delta, Commit}
use Rattle.dc_talk.specs.declared.say.Say.TheVariants.{Lacks, Welcome, Snap, Object, Changes, Known, Stamped}
use Rattle.dc_talk.specs.declared.settings.Settings.{Settings}
use Rattle.dc_talk.specs.Entries.{Entry}
use Rattle.dc_talk.specs.Records.{count, vector, guard, top, inside, mine}
use Rattle.dc_talk.specs.Objects.{state_at, ops_since}
use Rattle.dc_talk.specs.Trails.{applied, stable, horizon}
use Rattle.dc_talk.specs.Answers.{fits, snap_at, commit_answer, answer}
use Rattle.dc_talk.proofs.Answers.{lack_holds, lack_none, unless_lacking, fetch_holds, delta_holds, commit_holds, may_answer, fitting, answers_it}

-- ---- a commit

-- a commit that is stamped after the records A
pub record StampedBy (s : Settings) (A : List Record) (tx : Tx) (stamp : Stamp) : Type 0 where
  pub is : stamp ≡ record { centre = s.me; seq = count s.me A + 1 }
  pub fit : IsFit s.n tx
  pub number : tx.dot.number ≡ guard tx.dot.client A + 1
  pub covered : Covers (vector s.n A) tx.snap
  pub room : count s.me A < s.limit

-- equal answers have equal stamps
same_stamp : (s t : Stamp) → Stamped s ≡ Stamped t → s ≡ t
same_stamp s t same = cc

-- a stamp comes where no refusal does
stamped_row : (s : Settings) (A : List Record) (tx : Tx) (stamp : Stamp) → fits s.n (Commit tx) ≡ true → Stamped stamp ≡ commit_answer s (vector s.n A) (guard tx.dot.client A) (count s.me A) tx → StampedBy s A tx stamp
stamped_row s A tx stamp fit = commit_holds (λ say. Stamped stamp ≡ say → StampedBy s A tx stamp) s (vector s.n A) (guard tx.dot.client A) (count s.me A) tx (
  when_holds _ _ _ (λ t e. absurd (cc)),
  λ known. (
    when_holds _ _ _ (λ t e. absurd (cc)),
    λ out. (
      lack_holds _ Lacks (λ c m h e. absurd (cc)) (vector s.n A) tx.snap,
      λ covered. (
        when_holds _ _ _ (λ t e. absurd (cc)),
        λ full e.
            let low = leb-false tx.dot.number (guard tx.dot.client A) (when_none _ _ known) in
            let high = leb-false (guard tx.dot.client A + 2) tx.dot.number (when_none _ _ out) in
            record {
              is = same_stamp stamp _ e;
              fit = fault_of-none s.n tx (is_none_true (fault_of s.n tx) fit);
              number = omega (arith, low, high);
              covered = lack_none Lacks (vector s.n A) tx.snap covered;
              room = leb-false s.limit (count s.me A) (when_none _ _ full);
            },
      ),
    ),
  ),
)

-- what is stamped, by the answer
pub stamped_by : (s : Settings) (trail : List Entry) (tx : Tx) (stamp : Stamp) → Stamped stamp ≡ answer s trail (Commit tx) → StampedBy s (applied s.n trail) tx stamp
stamped_by s trail tx stamp is =
    let fit = fitting s trail (Commit tx) (Stamped stamp) is (λ e. cc) (λ e. cc) in
    stamped_row s (applied s.n trail) tx stamp fit.0 fit.1

-- a commit that is known after the records A
pub record KnownBy (n : ℕ) (A : List Record) (tx : Tx) (through : ℕ) : Type 0 where
  pub is : through ≡ guard tx.dot.client A
  pub low : tx.dot.number ≤ through

-- equal answers have equal numbers
same_known : (m o : ℕ) → Known m ≡ Known o → m ≡ o
same_known m o same = cc

-- a commit is known where its number is no greater than one that is there
known_row : (s : Settings) (A : List Record) (tx : Tx) (through : ℕ) → Known through ≡ commit_answer s (vector s.n A) (guard tx.dot.client A) (count s.me A) tx → KnownBy s.n A tx through
known_row s A tx through = commit_holds (λ say. Known through ≡ say → KnownBy s.n A tx through) s (vector s.n A) (guard tx.dot.client A) (count s.me A) tx (
  when_holds _ _ _ (λ t e.
      let same = same_known through (guard tx.dot.client A) e in
      record { is = same; low = omega (arith, same, leb-true tx.dot.number (guard tx.dot.client A) t) }),
  λ known. (
    when_holds _ _ _ (λ t e. absurd (cc)),
    λ out. (lack_holds _ Lacks (λ c m h e. absurd (cc)) (vector s.n A) tx.snap, λ covered. (when_holds _ _ _ (λ t e. absurd (cc)), λ full e. absurd (cc))),
  ),
)

-- what is known, by the answer
pub known_by : (s : Settings) (trail : List Entry) (tx : Tx) (through : ℕ) → Known through ≡ answer s trail (Commit tx) → KnownBy s.n (applied s.n trail) tx through
known_by s trail tx through is = known_row s (applied s.n trail) tx through (fitting s trail (Commit tx) (Known through) is (λ e. cc) (λ e. cc)).1

-- ---- a refresh

-- the ask is a refresh
pub record IsRefresh (ask : Ask) : Type 0 where
  pub client : ℕ
  pub here : List ℕ
  pub is : ask ≡ Refresh client here

-- no other ask can be answered with a snapshot
snap_asked : (ask : Ask) (w : List ℕ) (own_number top_rank : ℕ) → may_answer ask (Snap w own_number top_rank) ≡ true → IsRefresh ask
snap_asked (Refresh client here) w own_number top_rank is = record { client = client; here = here; is = refl }
snap_asked _ w own_number top_rank is = absurd (false≢true is)

-- so what is answered with a snapshot is a refresh
pub refresh_by : (s : Settings) (trail : List Entry) (ask : Ask) (w : List ℕ) (own_number top_rank : ℕ) → Snap w own_number top_rank ≡ answer s trail ask → IsRefresh ask
refresh_by s trail ask w own_number top_rank is = snap_asked ask w own_number top_rank (answers_it s trail ask (Snap w own_number top_rank) is (λ e. cc) (λ e. cc))

-- a snapshot at vector w for a refresh at `here`, after a trail
pub record SnapBy (s : Settings) (trail : List Entry) (client : ℕ) (here w : List ℕ) (own_number top_rank : ℕ) : Type 0 where
  pub width : length here ≡ s.n
  pub covered : Covers (vector s.n (applied s.n trail)) here
  pub vector_is : w ≡ join_of here (stable s trail)
  pub mine_is : own_number ≡ mine client (inside (applied s.n trail) w)
  pub top_is : top_rank ≡ top (applied s.n trail)

-- equal snapshots have equal parts
same_snap : (v w : List ℕ) (m o t u : ℕ) → Snap v m t ≡ Snap w o u → (v ≡ w) × (m ≡ o) × (t ≡ u)
same_snap v w m o t u same = (cc, cc, cc)

-- a snapshot, by the answer
pub snap_by : (s : Settings) (trail : List Entry) (client : ℕ) (here w : List ℕ) (own_number top_rank : ℕ) → Snap w own_number top_rank ≡ answer s trail (Refresh client here) → SnapBy s trail client here w own_number top_rank
snap_by s trail client here w own_number top_rank is = unless_lacking (λ say. Snap w own_number top_rank ≡ say → SnapBy s trail client here w own_number top_rank) (vector s.n A) here (snap_at A client (join_of here (stable s trail)))
    (λ c m h e. absurd (cc))
    (λ covered e.
    let same = same_snap w (join_of here (stable s trail)) own_number (mine client (inside A (join_of here (stable s trail)))) top_rank (top A) e in
    record {
      width = eqb-true (length here) s.n (and_parts _ _ fit.0).1;
      covered = covered;
      vector_is = same.0;
      mine_is = same.1 ∙ ap (λ v. mine client (inside A v)) (sym same.0);
      top_is = same.2;
    })
    fit.1
  where
    A : List Record
    A = applied s.n trail

    fit : (fits s.n (Refresh client here) ≡ true) × (Snap w own_number top_rank ≡ Rattle.dc_talk.specs.Answers.row s trail (Refresh client here))
    fit = fitting s trail (Refresh client here) (Snap w own_number top_rank) is (λ e. cc) (λ e. cc)

-- ---- a fetch

-- the state of an object at a vector, after the records A
pub record ObjectBy (n : ℕ) (A : List Record) (o : ObjectId) (here : List ℕ) (state : State) : Type 0 where
  pub width : length here ≡ n
  pub covered : Covers (vector n A) here
  pub is : state ≡ state_at o A here

-- equal answers have equal states
same_state : (s t : State) → Object s ≡ Object t → s ≡ t
same_state s t same = cc

-- a state, by the answer
pub object_by : (s : Settings) (trail : List Entry) (o : ObjectId) (here : List ℕ) (state : State) → Object state ≡ answer s trail (Fetch o here) → ObjectBy s.n (applied s.n trail) o here state
object_by s trail o here state is =
    let A = applied s.n trail in
    let fit = fitting s trail (Fetch o here) (Object state) is (λ e. cc) (λ e. cc) in
    fetch_holds (λ say. Object state ≡ say → ObjectBy s.n A o here state) (vector s.n A) (horizon s trail).base (state_at o A here) here
    (λ c m h e. absurd (cc))
    (λ c m h e. absurd (cc))
    (λ covered kept e. record { width = eqb-true (length here) s.n fit.0; covered = covered; is = same_state state (state_at o A here) e })
    fit.1

-- ---- a delta

-- operations on an object that came between two vectors, after the records A, of a centre with this base
pub record ChangesBy (n : ℕ) (A : List Record) (base : List ℕ) (o : ObjectId) (from here : List ℕ) (tail : List (Mark × Op)) : Type 0 where
  pub widths : (length from ≡ n) × (length here ≡ n)
  pub later : Covers here from
  pub covered : Covers (vector n A) here
  pub kept : Covers from base
  pub is : tail ≡ ops_since o A from here

-- equal answers have equal operations
same_tail : (s t : List (Mark × Op)) → Changes s ≡ Changes t → s ≡ t
same_tail s t same = cc

-- the vectors of a delta that fits
pub delta_fits : (n : ℕ) (o : ObjectId) (from here : List ℕ) → fits n (Delta o from here) ≡ true → (length from ≡ n) × (length here ≡ n) × Covers here from
delta_fits n o from here fit =
    let one = and_parts _ _ fit in
    let two = and_parts _ _ one.1 in
    (eqb-true (length from) n one.0, eqb-true (length here) n two.0, covers-true here from two.1)

-- operations, by the answer
pub changes_by : (s : Settings) (trail : List Entry) (o : ObjectId) (from here : List ℕ) (tail : List (Mark × Op)) → Changes tail ≡ answer s trail (Delta o from here) → ChangesBy s.n (applied s.n trail) (horizon s trail).base o from here tail
changes_by s trail o from here tail is =
    let A = applied s.n trail in
    let fit = fitting s trail (Delta o from here) (Changes tail) is (λ e. cc) (λ e. cc) in
    let wide = delta_fits s.n o from here fit.0 in
    delta_holds (λ say. Changes tail ≡ say → ChangesBy s.n A (horizon s trail).base o from here tail) (vector s.n A) (horizon s trail).base (ops_since o A from here) (state_at o A here) from here
    (λ c m h e. absurd (cc))
    (λ c m h e. absurd (cc))
    (λ covered kept e. record { widths = (wide.0, wide.1); later = wide.2; covered = covered; kept = kept; is = same_tail tail (ops_since o A from here) e })
    (λ covered kept e. absurd (cc))
    fit.1

-- a state in place of them, by the answer
pub whole_by : (s : Settings) (trail : List Entry) (o : ObjectId) (from here : List ℕ) (state : State) → Object state ≡ answer s trail (Delta o from here) → ObjectBy s.n (applied s.n trail) o here state
whole_by s trail o from here state is =
    let A = applied s.n trail in
    let fit = fitting s trail (Delta o from here) (Object state) is (λ e. cc) (λ e. cc) in
    let wide = delta_fits s.n o from here fit.0 in
    delta_holds (λ say. Object state ≡ say → ObjectBy s.n A o here state) (vector s.n A) (horizon s trail).base (ops_since o A from here) (state_at o A here) from here
    (λ c m h e. absurd (cc))
    (λ c m h e. absurd (cc))
    (λ covered kept e. absurd (cc))
    (λ covered kept e. record { width = wide.1; covered = covered; is = same_state state (state_at o A here) e })
    fit.1

-- ---- a hello

-- a hello that is welcome, after the records A
pub record WelcomeBy (n client : ℕ) (A : List Record) (need : List ℕ) (through : ℕ) : Type 0 where
  pub width : length need ≡ n
  pub covered : Covers (vector n A) need
  pub is : through ≡ guard client A

-- equal answers have equal numbers
same_through : (m o : ℕ) → Welcome m ≡ Welcome o → m ≡ o
same_through m o same = cc

-- a welcome, by the answer
pub welcome_by : (s : Settings) (trail : List Entry) (client : ℕ) (need : List ℕ) (through : ℕ) → Welcome through ≡ answer s trail (Hello client need) → WelcomeBy s.n client (applied s.n trail) need through
welcome_by s trail client need through is =
    let A = applied s.n trail in
    let fit = fitting s trail (Hello client need) (Welcome through) is (λ e. cc) (λ e. cc) in
    unless_lacking (λ say. Welcome through ≡ say → WelcomeBy s.n client A need through) (vector s.n A) need (Welcome (guard client A))
    (λ c m h e. absurd (cc))
    (λ covered e. record { width = eqb-true (length need) s.n (and_parts _ _ fit.0).1; covered = covered; is = same_through through (guard client A) e })
    fit.1
