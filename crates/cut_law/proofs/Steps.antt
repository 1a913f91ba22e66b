-- Parts that are alike: each ask is answered the same, and they stay alike.
use Rattle.std.proofs.Common.{◌≡◌, ◌≤◌, ℕ, zero, suc, ◌+◌, ◌-◌, Bool, true, false, cond, List, [], ◌∷◌, ◌++◌, length, take, drop, Option, Some, None, refl, sym, ap, ◌∙◌, subst, arith}
use Rattle.std.specs.Prelude.{not, map, nat_le, ◌==◌, ◌&&◌}
use Rattle.std.specs.Option.{unwrap_or}
use Rattle.std.proofs.lemmas.Bool.{and_parts, or_parts, leb-true, leb-false}
use Rattle.std.proofs.lemmas.List.{map_push, drop-drop}
use Rattle.std.proofs.lemmas.List.Elements.{filter-append}
use Rattle.std.proofs.lemmas.List.Sums.{length-filter}
use Rattle.list_core.specs.Choices.{when, first_of}
use Rattle.list_core.proofs.Choices.{when_none, when_holds}
use Rattle.vv_core.specs.declared.stamp.Stamp.{Stamp}
use Rattle.vv_core.specs.Vectors.{at, centres, tabulate, column, least, join_of, meet_of, kth_largest, Covers}
use Rattle.vv_core.proofs.Covering.{Covers_trans, Covers-join_left, Covers-join_right}
use Rattle.vv_core.proofs.Entrywise.{same_tabulate}
use Rattle.vv_core.proofs.Reaching.{count_by-map}
use Rattle.tx_core.specs.declared.tx.Tx.{Tx}
use Rattle.tx_core.specs.declared.tx.Record.{Record}
use Rattle.tx_core.specs.declared.state.State.{State}
use Rattle.join_bundle.specs.Conditions.{IsCentre}
use Rattle.dc_talk.specs.declared.ask.TheConstants.{MOST_HOPS, MOST_SENT}
use Rattle.dc_talk.specs.declared.ask.Ask.{Ask}
use Rattle.dc_talk.specs.declared.ask.Ask.TheVariants.{Hello, Refresh, Fetch, Delta, Commit, Send, Deliver, Relay, Report, Learn, Prune, Stop, Start}
use Rattle.dc_talk.specs.declared.say.Say.{Say}
use Rattle.dc_talk.specs.declared.say.Say.TheVariants.{Misfit, Down, Lacks, Snap, Pruned, Object, Trimmed, Records, Vector, Learned, Stamped, Waits, Applied, Base}
use Rattle.dc_talk.specs.declared.sent.Sent.{Sent}
use Rattle.dc_talk.specs.declared.settings.Settings.{Settings}
use Rattle.dc_talk.specs.Records.{count, vector, guard, first_stamp, mine, joined, deps_of}
use Rattle.dc_talk.specs.Sents.{with_hops, items, of_origin}
use Rattle.dc_talk.specs.Objects.{state_at, ops_since}
use Rattle.dc_talk.specs.Trails.{Horizon, carried_on, taught, taught_in, switched_in}
use Rattle.dc_talk.specs.Answers.{fits, is_fit_item, lacking, is_switch, fetch_answer, told_of, delta_answer, commit_answer, deliver_answer, snap_at, part_of, count_inside, tells, hello_answer, refresh_answer, send_answer}
use Rattle.dc_talk.proofs.Answers.{lack_none, lack_holds, commit_holds, deliver_holds}
use Rattle.dc_talk.proofs.ClientAnswers.{delta_fits}
use Rattle.dc_talk.proofs.PeerAnswers.{IsFitItem, item_fits}
use Rattle.cut_law.specs.Parts.{Parts, list, rows_over, stable_over, all_known_over, pruned_over, row_over, answer_over, horizon_then, parts_then}
use Rattle.cut_law.proofs.Lists.{AreAlike, last_dot, state_alike, ops_alike, mine_alike, count_alike, alike_on, alike_more}
use Rattle.cut_law.proofs.Timely.{IsTimely, timely_then}

-- applied records with hops are alike for a horizon: without hops they are alike at the base, and of each origin the same
-- ones were not let go
pub record AreCarried (n : ℕ) (h : Horizon) (C D : List Sent) : Type 0 where
  pub lists : AreAlike n h.base (items C) (items D)
  pub kept : (e : ℕ) → IsCentre n e → drop (at h.trimmed e) (of_origin e C) ≡ drop (at h.trimmed e) (of_origin e D)

-- parts that are alike for a centre
pub record AreParts (s : Settings) (P Q : Parts) : Type 0 where
  pub carried : AreCarried s.n P.horizon P.carried Q.carried
  pub told : (j : ℕ) → P.told j ≡ Q.told j
  pub horizon : P.horizon ≡ Q.horizon
  pub stopped : P.stopped ≡ Q.stopped
  pub timely : IsTimely s P

-- ---- what was not let go

-- as many records of an origin as the origin counts
pub origin_count : (e : ℕ) (C : List Sent) → length (of_origin e C) ≡ count e (items C)
origin_count e C = length-filter (λ (x : Sent). x.item.stamp.centre == e) C ∙ sym (count_by-map (λ (r : Record). r.stamp.centre == e) (λ (x : Sent). x.item) C)

-- lists of one length with the same behind a place have it with the same more
drop_same : {X : Type 0} (k : ℕ) (xs ys zs : List X) → length xs ≡ length ys → drop k xs ≡ drop k ys → drop k (xs ++ zs) ≡ drop k (ys ++ zs)
drop_same zero xs ys zs long same = ap (λ l. l ++ zs) same
drop_same (suc k) [] [] zs long same = refl
drop_same (suc k) [] (y ∷ ys) zs long same = absurd (omega (arith, long))
drop_same (suc k) (x ∷ xs) [] zs long same = absurd (omega (arith, long))
drop_same (suc k) (x ∷ xs) (y ∷ ys) zs long same = drop_same k xs ys zs (omega (arith, long)) same

-- and the same behind each later place
drop_later : {X : Type 0} (k l : ℕ) (xs ys : List X) → k ≤ l → drop k xs ≡ drop k ys → drop l xs ≡ drop l ys
drop_later k l xs ys le same =
    let sum : k + (l - k) ≡ l = omega (arith, le) in
    ap (λ m. drop m xs) (sym sum)
    ∙ (sym (drop-drop (l - k) k xs)
    ∙ (ap (drop (l - k)) same
    ∙ (drop-drop (l - k) k ys
    ∙ ap (λ m. drop m ys) sum)))

-- so the same are handed on
send_alike : (trimmed after most : ℕ) (xs ys : List Sent) → drop trimmed xs ≡ drop trimmed ys → send_answer trimmed (take most (drop after xs)) after ≡ send_answer trimmed (take most (drop after ys)) after
send_alike trimmed after most xs ys same = go (nat_le (after + 1) trimmed) refl
  where
    go : (b : Bool) → nat_le (after + 1) trimmed ≡ b → first_of (when b (Trimmed trimmed) ∷ []) (Records (take most (drop after xs))) ≡ first_of (when b (Trimmed trimmed) ∷ []) (Records (take most (drop after ys)))
    go true is = refl
    go false is = ap (λ l. Records (take most l)) (drop_later trimmed after xs ys (let lt = leb-false (after + 1) trimmed is in omega (arith, lt)) same)

-- ---- answers

-- a delta is answered alike where the same is told from what the base does not exceed
delta_alike : (have base from here : List ℕ) (one other : Say) → (Covers from base → one ≡ other) → delta_answer have base one from here ≡ delta_answer have base other from here
delta_alike have base from here one other same = go (lacking Lacks have here)
  where
    pruned : (o : Option Say) → lacking Pruned from base ≡ o → first_of (o ∷ []) one ≡ first_of (o ∷ []) other
    pruned None is = same (lack_none Pruned from base is)
    pruned (Some say) is = refl

    go : (o : Option Say) → first_of (o ∷ lacking Pruned from base ∷ []) one ≡ first_of (o ∷ lacking Pruned from base ∷ []) other
    go None = pruned (lacking Pruned from base) refl
    go (Some say) = refl

-- so is a fetch, where the states agree
fetch_alike : (have base here : List ℕ) (s t : State) → (Covers here base → s ≡ t) → fetch_answer have base s here ≡ fetch_answer have base t here
fetch_alike have base here s t same = delta_alike have base here here (Object s) (Object t) (λ covered. ap Object (same covered))

-- a number that passes the test of centres is that of one
pub centre_within : (n e : ℕ) (b : Bool) → (nat_le 1 e && nat_le e n) && b ≡ true → IsCentre n e
centre_within n e b is =
    let both = and_parts (nat_le 1 e && nat_le e n) b is in
    let parts = and_parts (nat_le 1 e) (nat_le e n) both.0 in
    (leb-true 1 e parts.0, leb-true e n parts.1)

module _ (s : Settings) (P Q : Parts) (me : IsCentre s.n s.me) (h : AreParts s P Q) where
  lists : AreAlike s.n P.horizon.base (list P) (list Q)
  lists = h.carried.lists

  vectors : vector s.n (list P) ≡ vector s.n (list Q)
  vectors = same_tabulate s.n (λ e. count e (list P)) (λ e. count e (list Q)) (λ e low high. lists.counts e (low, high))

  rows_alike : rows_over s P ≡ rows_over s Q
  rows_alike i = map (λ j. cond (j == s.me) (vectors i) (h.told j i)) (centres s.n)

  stable_alike : stable_over s P ≡ stable_over s Q
  stable_alike i = meet_of (kth_largest s.k (rows_alike i)) (vectors i)

  all_known_alike : all_known_over s P ≡ all_known_over s Q
  all_known_alike i = tabulate s.n (λ e. least (column e (rows_alike i)))

  pruned_alike : pruned_over s P ≡ pruned_over s Q
  pruned_alike i = record { base = (h.horizon i).mark; mark = stable_alike i; trimmed = join_of (h.horizon i).trimmed (all_known_alike i) }

  snap_covers : (here : List ℕ) → Covers (join_of here (stable_over s P)) P.horizon.base
  snap_covers here = Covers_trans (join_of here (stable_over s P)) (stable_over s P) P.horizon.base (Covers-join_right here (stable_over s P)) (Covers_trans (stable_over s P) P.horizon.mark P.horizon.base h.timely.steady h.timely.ahead)

  snap_alike : (client : ℕ) (here : List ℕ) → snap_at (list P) client (join_of here (stable_over s P)) ≡ snap_at (list Q) client (join_of here (stable_over s Q))
  snap_alike client here =
      (λ i. Snap (join_of here (stable_over s P)) (mine_alike s.n P.horizon.base (list P) (list Q) lists (join_of here (stable_over s P)) (snap_covers here) client i) (lists.tops i))
      ∙ (λ i. snap_at (list Q) client (join_of here (stable_alike i)))

  -- a fitting ask is answered the same by running centres
  row_alike : (ask : Ask) → fits s.n ask ≡ true → row_over s P ask ≡ row_over s Q ask
  row_alike (Hello client need) fit = λ i. hello_answer (vectors i) (lists.guards client i) need
  row_alike (Refresh client here) fit = λ i. refresh_answer (vectors i) (snap_alike client here i) here
  row_alike (Fetch object here) fit =
      fetch_alike (vector s.n (list P)) P.horizon.base here (state_at object (list P) here) (state_at object (list Q) here) (λ covers. state_alike s.n P.horizon.base (list P) (list Q) lists here covers object)
      ∙ (λ i. fetch_answer (vectors i) (h.horizon i).base (state_at object (list Q) here) here)
  row_alike (Delta object from here) fit =
      let later : Covers here from = (delta_fits s.n object from here fit).2 in
      delta_alike (vector s.n (list P)) P.horizon.base from here
      (told_of (ops_since object (list P) from here) (state_at object (list P) here))
      (told_of (ops_since object (list Q) from here) (state_at object (list Q) here))
      (λ covered i. told_of
      (ops_alike s.n P.horizon.base (list P) (list Q) lists from covered here later object i)
      (state_alike s.n P.horizon.base (list P) (list Q) lists here (Covers_trans here from P.horizon.base later covered) object i))
      ∙ (λ i. delta_answer (vectors i) (h.horizon i).base (told_of (ops_since object (list Q) from here) (state_at object (list Q) here)) from here)
  row_alike (Commit tx) fit = λ i. commit_answer s (vectors i) (lists.guards tx.dot.client i) (lists.counts s.me me i) tx
  row_alike (Send after most) fit =
      send_alike (at P.horizon.trimmed s.me) after most (of_origin s.me P.carried) (of_origin s.me Q.carried) (h.carried.kept s.me me)
      ∙ (λ i. send_answer (at (h.horizon i).trimmed s.me) (part_of s.me Q.carried after most) after)
  row_alike (Deliver item hops) fit =
      let origin = (item_fits s.n item (and_parts (is_fit_item s.n item) (nat_le hops MOST_HOPS) fit).0).centre in
      λ i. deliver_answer s (vectors i) (lists.counts item.stamp.centre origin i) (lists.guards item.tx.dot.client i) item
  row_alike (Relay origin after most) fit =
      send_alike (at P.horizon.trimmed origin) after most (of_origin origin P.carried) (of_origin origin Q.carried) (h.carried.kept origin (centre_within s.n origin (nat_le 1 most && nat_le most MOST_SENT) fit))
      ∙ (λ i. send_answer (at (h.horizon i).trimmed origin) (part_of origin Q.carried after most) after)
  row_alike Report fit = λ i. Vector (vectors i)
  row_alike (Learn from news) fit = λ i. Learned (tells s.me (h.told from i) from news)
  row_alike Prune fit =
      (λ i. Base P.horizon.mark (count_alike s.n P.horizon.base (list P) (list Q) lists P.horizon.mark h.timely.ahead i) (at (pruned_alike i).trimmed s.me))
      ∙ (λ i. Base (h.horizon i).mark (count_inside (list Q) (h.horizon i).mark) (at (pruned_over s Q).trimmed s.me))
  row_alike Stop fit = refl
  row_alike Start fit = refl

  -- each ask is answered the same
  pub answer_alike : (ask : Ask) → answer_over s P ask ≡ answer_over s Q ask
  answer_alike ask = ap (λ (d : Bool). cond (fits s.n ask) (cond (d && not (is_switch ask)) Down (row_over s P ask)) Misfit) h.stopped ∙ go (fits s.n ask) refl
    where
      go : (b : Bool) → fits s.n ask ≡ b → cond b (cond (Q.stopped && not (is_switch ask)) Down (row_over s P ask)) Misfit ≡ cond b (cond (Q.stopped && not (is_switch ask)) Down (row_over s Q ask)) Misfit
      go true fit = ap (λ (say : Say). cond (Q.stopped && not (is_switch ask)) Down say) (row_alike ask fit)
      go false fit = refl

-- ---- what an answer tells of the ask

-- an answer other than a misfit or a refusal of a stopped centre is that of a running one, to an ask that fits
pub running : (s : Settings) (P : Parts) (ask : Ask) (say : Say) → say ≡ answer_over s P ask → (say ≡ Misfit → ⊥) → (say ≡ Down → ⊥) → (fits s.n ask ≡ true) × (say ≡ row_over s P ask)
running s P ask say is fits_not down_not = go (fits s.n ask) refl is
  where
    up : (b : Bool) → say ≡ cond b Down (row_over s P ask) → say ≡ row_over s P ask
    up true is = absurd (down_not is)
    up false is = is

    go : (b : Bool) → fits s.n ask ≡ b → say ≡ cond b (cond (P.stopped && not (is_switch ask)) Down (row_over s P ask)) Misfit → (fits s.n ask ≡ true) × (say ≡ row_over s P ask)
    go true fit is = (fit, up (P.stopped && not (is_switch ask)) is)
    go false fit is = absurd (fits_not is)

-- equal answers have equal stamps
same_stamp : (s t : Stamp) → Stamped s ≡ Stamped t → s ≡ t
same_stamp s t same = cc

-- a commit that gets a stamp is the client's next one, and the stamp is the centre's next one
record IsNext (s : Settings) (A : List Record) (tx : Tx) (stamp : Stamp) : Type 0 where
  number : tx.dot.number ≡ guard tx.dot.client A + 1
  stamp_is : stamp ≡ record { centre = s.me; seq = count s.me A + 1 }

next_by : (s : Settings) (P : Parts) (tx : Tx) (stamp : Stamp) → Stamped stamp ≡ answer_over s P (Commit tx) → IsNext s (list P) tx stamp
next_by s P tx stamp says = commit_holds (λ say. Stamped stamp ≡ say → IsNext s (list P) tx stamp) s (vector s.n (list P)) (guard tx.dot.client (list P)) (count s.me (list P)) tx (
  when_holds _ _ _ (λ t e. absurd (cc)),
  λ old. (
    when_holds _ _ _ (λ t e. absurd (cc)),
    λ far. (
      lack_holds _ Lacks (λ c m h e. absurd (cc)) (vector s.n (list P)) tx.snap,
      λ covered. (
        when_holds _ _ _ (λ t e. absurd (cc)),
        λ room e.
            let low = leb-false tx.dot.number (guard tx.dot.client (list P)) (when_none _ _ old) in
            let high = leb-false (guard tx.dot.client (list P) + 2) tx.dot.number (when_none _ _ far) in
            record { number = omega (arith, low, high); stamp_is = same_stamp stamp _ e },
      ),
    ),
  ),
)
    (running s P (Commit tx) (Stamped stamp) says (λ e. cc) (λ e. cc)).1

-- a record that is applied has the next stamp of its centre, and its transaction is its client's next one or one that is there
record Continues (A : List Record) (r : Record) : Type 0 where
  seq : r.stamp.seq ≡ count r.stamp.centre A + 1
  low : 1 ≤ r.tx.dot.number
  next : r.tx.dot.number ≤ guard r.tx.dot.client A + 1

continues_by : (s : Settings) (P : Parts) (item : Record) (hops : ℕ) (fresh : Bool) → Applied fresh ≡ answer_over s P (Deliver item hops) → Continues (list P) item
continues_by s P item hops fresh says = deliver_holds (λ say. Applied fresh ≡ say → Continues (list P) item) s (vector s.n (list P)) (count item.stamp.centre (list P)) (guard item.tx.dot.client (list P)) item (
  when_holds _ _ _ (λ t e. absurd (cc)),
  λ old. (
    when_holds _ _ _ (λ t e. absurd (cc)),
    λ gap. (
      lack_holds _ Waits (λ c m h e. absurd (cc)) (vector s.n (list P)) item.deps,
      λ waits. (
        when_holds _ _ _ (λ t e. absurd (cc)),
        λ orphan e.
            let low = leb-false item.stamp.seq (count item.stamp.centre (list P)) (when_none _ _ old) in
            let high = leb-false (count item.stamp.centre (list P) + 2) item.stamp.seq (or_parts _ _ (when_none _ _ gap)).0 in
            let next = leb-false (guard item.tx.dot.client (list P) + 2) item.tx.dot.number (when_none _ _ orphan) in
            record { seq = omega (arith, low, high); low = fit.fit.number.0; next = omega (arith, next) },
      ),
    ),
  ),
)
    up.1
  where
    up : (fits s.n (Deliver item hops) ≡ true) × (Applied fresh ≡ row_over s P (Deliver item hops))
    up = running s P (Deliver item hops) (Applied fresh) says (λ e. cc) (λ e. cc)

    fit : IsFitItem s.n item
    fit = item_fits s.n item (and_parts (is_fit_item s.n item) (nat_le hops MOST_HOPS) up.0).0

-- ---- one entry more

-- one record more of both
carried_more : (n : ℕ) (h : Horizon) (C D : List Sent) (x : Sent) → AreCarried n h C D → x.item.stamp.seq ≡ count x.item.stamp.centre (items C) + 1 → 1 ≤ x.item.tx.dot.number → x.item.tx.dot.number ≤ guard x.item.tx.dot.client (items C) + 1 → AreCarried n h (C ++ x ∷ []) (D ++ x ∷ [])
carried_more n h C D x are seq low next = record {
  lists =
      subst (λ (l : List Record). AreAlike n h.base l (items (D ++ x ∷ []))) (sym (map_push (λ (x : Sent). x.item) C x))
      (subst (λ (l : List Record). AreAlike n h.base (items C ++ x.item ∷ []) l) (sym (map_push (λ (x : Sent). x.item) D x))
      (alike_more n h.base (items C) (items D) x.item are.lists seq low next));
  kept = λ e centre.
      ap (drop (at h.trimmed e)) (filter-append (λ (x : Sent). x.item.stamp.centre == e) C (x ∷ []))
      ∙ (drop_same (at h.trimmed e) (of_origin e C) (of_origin e D) (of_origin e (x ∷ [])) (origin_count e C ∙ (are.lists.counts e centre ∙ sym (origin_count e D))) (are.kept e centre)
      ∙ ap (drop (at h.trimmed e)) (sym (filter-append (λ (x : Sent). x.item.stamp.centre == e) D (x ∷ []))));
}

module _ (s : Settings) (P Q : Parts) (me : IsCentre s.n s.me) (known : 1 ≤ s.k) (h : AreParts s P Q) where
  -- the dependency vector that both give a client's next transaction
  deps_alike : (tx : Tx) → tx.dot.number ≡ guard tx.dot.client (list P) + 1 → deps_of s.n (list P) tx ≡ deps_of s.n (list Q) tx
  deps_alike tx number = go (nat_le 2 tx.dot.number) refl
    where
      first : 2 ≤ tx.dot.number → first_stamp (last_dot tx.dot.client (list P)) (list P) ≡ first_stamp (last_dot tx.dot.client (list Q)) (list Q)
      first two =
          h.carried.lists.stamps tx.dot.client (omega (arith, two, number))
          ∙ (λ i. first_stamp (record { client = tx.dot.client; number = h.carried.lists.guards tx.dot.client i }) (list Q))

      go : (b : Bool) → nat_le 2 tx.dot.number ≡ b → cond b (joined s.n tx.snap (first_stamp (last_dot tx.dot.client (list P)) (list P))) tx.snap ≡ cond b (joined s.n tx.snap (first_stamp (last_dot tx.dot.client (list Q)) (list Q))) tx.snap
      go true is = ap (joined s.n tx.snap) (first (leb-true 2 tx.dot.number is))
      go false is = refl

  -- where an entry leaves records and horizon, the parts are alike
  then_quiet : (ask : Ask) (say : Say) → carried_on s.n P.carried ask say ≡ P.carried → carried_on s.n Q.carried ask say ≡ Q.carried → horizon_then s P ask say ≡ P.horizon → horizon_then s Q ask say ≡ Q.horizon → AreParts s (parts_then s P ask say) (parts_then s Q ask say)
  then_quiet ask say one two mine yours = record {
    carried =
        subst (λ (z : Horizon). AreCarried s.n z (carried_on s.n P.carried ask say) (carried_on s.n Q.carried ask say)) (sym mine)
        (subst (λ (C : List Sent). AreCarried s.n P.horizon C (carried_on s.n Q.carried ask say)) (sym one)
        (subst (λ (D : List Sent). AreCarried s.n P.horizon P.carried D) (sym two) h.carried));
    told = λ j. ap (λ (row : List ℕ). taught j row (taught_in ask say)) (h.told j);
    horizon = mine ∙ (h.horizon ∙ sym yours);
    stopped = ap (λ (d : Bool). unwrap_or (switched_in ask say) d) h.stopped;
    timely = timely_then s P known h.timely ask say;
  }

  -- with a commit that got a stamp
  then_stamped : (tx : Tx) (stamp : Stamp) → Stamped stamp ≡ answer_over s P (Commit tx) → AreParts s (parts_then s P (Commit tx) (Stamped stamp)) (parts_then s Q (Commit tx) (Stamped stamp))
  then_stamped tx stamp says =
      let by = next_by s P tx stamp says in
      let number = by.number in
      let deps = deps_alike tx number in
      let seq : stamp.seq ≡ count s.me (list P) + 1 = ap (λ (a : Stamp). a.seq) by.stamp_is in
      let counts : count stamp.centre (list P) ≡ count s.me (list P) = ap (λ (a : Stamp). count a.centre (list P)) by.stamp_is in
      record {
        carried = subst (λ (d : List ℕ). AreCarried s.n P.horizon (carried_on s.n P.carried (Commit tx) (Stamped stamp)) (Q.carried ++ with_hops (record { stamp = stamp; deps = d; tx = tx }) 0 ∷ [])) deps
            (carried_more s.n P.horizon P.carried Q.carried (with_hops (record { stamp = stamp; deps = deps_of s.n (list P) tx; tx = tx }) 0) h.carried (omega (arith, seq, counts)) (omega (arith, number)) (omega (arith, number)));
        told = h.told;
        horizon = h.horizon;
        stopped = h.stopped;
        timely = timely_then s P known h.timely (Commit tx) (Stamped stamp);
      }

  -- with a record that was delivered
  then_applied : (item : Record) (hops : ℕ) (fresh : Bool) → Applied fresh ≡ answer_over s P (Deliver item hops) → AreParts s (parts_then s P (Deliver item hops) (Applied fresh)) (parts_then s Q (Deliver item hops) (Applied fresh))
  then_applied item hops fresh says =
      let by = continues_by s P item hops fresh says in
      record {
        carried = carried_more s.n P.horizon P.carried Q.carried (with_hops item (hops + 1)) h.carried by.seq by.low by.next;
        told = h.told;
        horizon = h.horizon;
        stopped = h.stopped;
        timely = timely_then s P known h.timely (Deliver item hops) (Applied fresh);
      }

  -- with more folded and let go
  then_pruned : (v : List ℕ) (folded trimmed : ℕ) → AreParts s (parts_then s P Prune (Base v folded trimmed)) (parts_then s Q Prune (Base v folded trimmed))
  then_pruned v folded trimmed = record {
    carried = record {
      lists = alike_on s.n P.horizon.base (list P) (list Q) h.carried.lists P.horizon.mark h.timely.ahead h.timely.marked;
      kept = λ e centre. drop_later (at P.horizon.trimmed e) (at (pruned_over s P).trimmed e) (of_origin e P.carried) (of_origin e Q.carried) ((Covers-join_left P.horizon.trimmed (all_known_over s P)).holds e) (h.carried.kept e centre);
    };
    told = h.told;
    horizon = pruned_alike s P Q me h;
    stopped = h.stopped;
    timely = timely_then s P known h.timely Prune (Base v folded trimmed);
  }

  -- with one entry more, which has the answer, the parts are alike
  pub then_alike : (ask : Ask) (say : Say) → say ≡ answer_over s P ask → AreParts s (parts_then s P ask say) (parts_then s Q ask say)
  then_alike (Commit tx) (Stamped stamp) says = then_stamped tx stamp says
  then_alike (Deliver item hops) (Applied fresh) says = then_applied item hops fresh says
  then_alike Prune (Base v folded trimmed) says = then_pruned v folded trimmed
  then_alike ask say says = then_quiet ask say refl refl refl refl
