-- A centre that stands for a trail answers as is defined for that trail, and then stands for it with
-- this entry.
use Rattle.std.proofs.Common.{◌≡◌, ◌≢◌, ◌≤◌, ◌<◌, ℕ, zero, suc, ◌+◌, true, false, cond, not, ◌⊎◌, inl, inr, List, [], ◌∷◌, ◌++◌, length, Option, Some, None, refl, sym, ap, ◌∙◌, subst, arith}
use Rattle.std.specs.Prelude.{nat_le, map, filter, ◌==◌, ◌&&◌, Result, Ok, Err, IfOk}
use Rattle.std.specs.Option.{unwrap_or}
use Rattle.std.specs.List.{range_with_len}
use Rattle.std.proofs.lemmas.Bool.{cases_Bool, and_parts, false≢true, eq-eqb, leb-true, leb-false}
use Rattle.std.proofs.lemmas.List.{length-map}
use Rattle.std.proofs.lemmas.List.Sums.{fold_push}
use Rattle.ids_core.specs.declared.memory.NoMemory.{NoMemory}
use Rattle.ids_core.specs.declared.object.ObjectId.{ObjectId}
use Rattle.list_core.specs.Choices.{first_of}
use Rattle.list_core.proofs.Images.{filter-map}
use Rattle.vv_core.specs.Vectors.{at, zeros, centres, tabulate, column, least, join_of, meet_of, kth_largest, Covers}
use Rattle.vv_core.proofs.Covering.{Covers_trans, Covers-join_right}
use Rattle.dup_guard.specs.Notes.{number_of}
use Rattle.k_stable.specs.Tables.{told_by, rows_of, all_known_of}
use Rattle.tx_core.specs.declared.tx.Record.{Record}
use Rattle.tx_core.specs.declared.state.State.{State}
use Rattle.tx_core.specs.Checks.{is_within}
use Rattle.point_log.specs.Splits.{first_txs, is_inside}
use Rattle.point_log.specs.StandFor.{state_told, count_told}
use Rattle.point_log.proofs.StandingFor.{state_stands, mine_stands, count_stands}
use Rattle.object_delta.specs.Deltas.{ops_told}
use Rattle.object_delta.proofs.Deltas.{told_stands}
use Rattle.dc_talk.specs.declared.ask.Ask.{Ask}
use Rattle.dc_talk.specs.declared.ask.Ask.TheVariants.{Hello, Refresh, Fetch, Delta, Commit, Send, Deliver, Relay, Report, Learn, Prune, Stop, Start}
use Rattle.dc_talk.specs.declared.say.Say.{Say}
use Rattle.dc_talk.specs.declared.say.Say.TheVariants.{Misfit, Down, Lacks, Snap, Pruned, Object, Records, Vector, Learned, Base}
use Rattle.dc_talk.specs.Entries.{Entry}
use Rattle.dc_talk.specs.declared.ask.TheConstants.{MOST_SENT, MOST_HOPS}
use Rattle.dc_talk.specs.declared.sent.Sent.{Sent}
use Rattle.dc_talk.specs.Records.{count, vector, guard, has, inside, mine, firsts}
use Rattle.dc_talk.specs.Objects.{state_at, ops_since}
use Rattle.dc_talk.specs.Trails.{carried, applied, taught, taught_in, switched_in, told, stable, all_known, stopped, Horizon, horizon, horizon_after, pruned}
use Rattle.dc_talk.specs.Answers.{fits, are_modest, is_fit_item, answer, row, lacking, snap_at, part_of, count_inside, tells, is_switch, hello_answer, refresh_answer, fetch_answer, told_of, delta_answer, commit_answer, send_answer, deliver_answer}
use Rattle.dc_talk.specs.declared.settings.Settings.{Settings}
use Rattle.dc_talk.proofs.Answers.{lack_none}
use Rattle.dc_talk.proofs.ClientAnswers.{delta_fits}
use Rattle.dc_talk.proofs.PeerAnswers.{item_fits}
use Rattle.dc_talk.proofs.Growth.{carried_push}
use Rattle.dc_talk.proofs.Horizons.{horizon_more}
use Rattle.dc_centre.specs.Centre.{CentreView, Holds, StandsFor, IsCentre, Goes, horizon_of, stable_over, known_over, trimmed_over, part_over, snap_over, row_over, up_over, horizon_over}
use Rattle.dc_centre.proofs.Applying.{at-vector}
use Rattle.dc_centre.proofs.Rows.{keeps_part}

-- the table has the centre's own numbers
pub record IsOwnTable (c : CentreView) : Type 0 where
  pub me : c.told.me ≡ c.settings.me
  pub n : c.told.n ≡ c.settings.n
  pub k : c.told.k ≡ c.settings.k

map_agree : {X : Type 0} (f g : ℕ → X) (b n : ℕ) → ((j : ℕ) → b ≤ j → j < b + n → f j ≡ g j) → map f (range_with_len b n) ≡ map g (range_with_len b n)
map_agree f g b zero same = refl
map_agree f g b (suc n) same = ap (λ x. x ∷ map f (range_with_len (b + 1) n)) (same b (omega arith) (omega arith)) ∙ ap (λ l. g b ∷ l) (map_agree f g (b + 1) n (λ j low high. same j (omega (arith, low)) (omega (arith, high))))

-- what it knows each centre to have is what the trail says
rows_are : (c : CentreView) (trail : List Entry) (own : List ℕ) → IsOwnTable c → StandsFor c trail → rows_of c.told own ≡ map (λ j. cond (j == c.settings.me) own (told c.settings.n j trail)) (centres c.settings.n)
rows_are c trail own t h =
    ap (λ (n : ℕ). map (λ j. cond (j == c.told.me) own (told_by c.told j)) (centres n)) t.n
    ∙ (ap (λ (me : ℕ). map (λ j. cond (j == me) own (told_by c.told j)) (centres c.settings.n)) t.me
    ∙ map_agree (λ j. cond (j == c.settings.me) own (told_by c.told j)) (λ j. cond (j == c.settings.me) own (told c.settings.n j trail)) 1 c.settings.n (λ j low high. one j low (omega (arith, high)) (cases_Bool (j == c.settings.me))))
  where
    one : (j : ℕ) → 1 ≤ j → j ≤ c.settings.n → ((j == c.settings.me) ≡ true) ⊎ ((j == c.settings.me) ≡ false) → cond (j == c.settings.me) own (told_by c.told j) ≡ cond (j == c.settings.me) own (told c.settings.n j trail)
    one j low high (inl t) = rw t refl
    one j low high (inr f) = rw f (h.told j (λ same. false≢true (sym f ∙ eq-eqb j c.settings.me same)) low high)

-- what is stable is what the trail says
stable_is : (c : CentreView) (trail : List Entry) → IsOwnTable c → StandsFor c trail → stable_over c ≡ stable c.settings trail
stable_is c trail t h =
    ap (λ (k : ℕ). meet_of (kth_largest k (rows_of c.told c.applied.counts)) c.applied.counts) t.k
    ∙ (ap (λ (v : List ℕ). meet_of (kth_largest c.settings.k (rows_of c.told v)) v) h.holds.applied.counted
    ∙ ap (λ (r : List (List ℕ)). meet_of (kth_largest c.settings.k r) (vector c.settings.n (applied c.settings.n trail))) (rows_are c trail (vector c.settings.n (applied c.settings.n trail)) t h))

-- so is what all are known to have
known_is : (c : CentreView) (trail : List Entry) → IsOwnTable c → StandsFor c trail → known_over c ≡ all_known c.settings trail
known_is c trail t h =
    ap (λ (v : List ℕ). all_known_of c.told v) h.holds.applied.counted
    ∙ (ap (λ (n : ℕ). tabulate n (λ e. least (column e (rows_of c.told (vector c.settings.n (applied c.settings.n trail)))))) t.n
    ∙ ap (λ (r : List (List ℕ)). tabulate c.settings.n (λ e. least (column e r))) (rows_are c trail (vector c.settings.n (applied c.settings.n trail)) t h))

-- so is how far it lets records go
trimmed_is : (c : CentreView) (trail : List Entry) → IsOwnTable c → StandsFor c trail → trimmed_over c ≡ (pruned c.settings trail (horizon c.settings trail)).trimmed
trimmed_is c trail t h =
    ap (λ (z : Horizon). join_of z.trimmed (known_over c)) h.pruned
    ∙ ap (join_of (horizon c.settings trail).trimmed) (known_is c trail t h)

tells_is : (c : CentreView) (trail : List Entry) (from : ℕ) (news : List ℕ) → StandsFor c trail → 1 ≤ from → from ≤ c.settings.n → tells c.settings.me (told_by c.told from) from news ≡ tells c.settings.me (told c.settings.n from trail) from news
tells_is c trail from news h low high = go (cases_Bool (from == c.settings.me))
  where
    go : ((from == c.settings.me) ≡ true) ⊎ ((from == c.settings.me) ≡ false) → tells c.settings.me (told_by c.told from) from news ≡ tells c.settings.me (told c.settings.n from trail) from news
    go (inl t) = rw t refl
    go (inr f) = ap (λ (row : List ℕ). tells c.settings.me row from news) (h.told from (λ same. false≢true (sym f ∙ eq-eqb from c.settings.me same)) low high)

-- how many transactions are within a vector, by the first records
count_firsts : (A : List Record) (w : List ℕ) → length (filter (is_inside A w) (first_txs A)) ≡ count_inside A w
count_firsts A w = ap length (filter-map (is_inside A w) (λ (r : Record). r.tx) (firsts A)) ∙ length-map (filter (λ (r : Record). has r.tx.dot (inside A w)) (firsts A)) (λ (r : Record). r.tx)

-- a fetch is answered alike where the states agree at what the base does not exceed
fetch_alike : (have base here : List ℕ) (s t : State) → (Covers here base → s ≡ t) → fetch_answer have base s here ≡ fetch_answer have base t here
fetch_alike have base here s t same = go (lacking Lacks have here)
  where
    pruned : (o : Option Say) → lacking Pruned here base ≡ o → first_of (o ∷ []) (Object s) ≡ first_of (o ∷ []) (Object t)
    pruned None is = ap Object (same (lack_none Pruned here base is))
    pruned (Some say) is = refl

    go : (o : Option Say) → first_of (o ∷ lacking Pruned here base ∷ []) (Object s) ≡ first_of (o ∷ lacking Pruned here base ∷ []) (Object t)
    go None = pruned (lacking Pruned here base) refl
    go (Some say) = refl

-- so is a delta, where what is told agrees
delta_alike : (have base from here : List ℕ) (s t : Say) → (Covers from base → s ≡ t) → delta_answer have base s from here ≡ delta_answer have base t from here
delta_alike have base from here s t same = go (lacking Lacks have here)
  where
    pruned : (o : Option Say) → lacking Pruned from base ≡ o → first_of (o ∷ []) s ≡ first_of (o ∷ []) t
    pruned None is = same (lack_none Pruned from base is)
    pruned (Some say) is = refl

    go : (o : Option Say) → first_of (o ∷ lacking Pruned from base ∷ []) s ≡ first_of (o ∷ lacking Pruned from base ∷ []) t
    go None = pruned (lacking Pruned from base) refl
    go (Some say) = refl

-- a send is answered alike where what is asked for agrees past what was let go
send_alike : (trimmed after : ℕ) (x y : List Sent) → (trimmed ≤ after → x ≡ y) → send_answer trimmed x after ≡ send_answer trimmed y after
send_alike trimmed after x y same = go (cases_Bool (nat_le (after + 1) trimmed))
  where
    go : (nat_le (after + 1) trimmed ≡ true) ⊎ (nat_le (after + 1) trimmed ≡ false) → send_answer trimmed x after ≡ send_answer trimmed y after
    go (inl t) = rw t refl
    go (inr f) = rw f (ap Records (same (let high = leb-false (after + 1) trimmed f in omega (arith, high))))

module _ (c : CentreView) (trail : List Entry) (is : IsCentre c.settings c.applied c.told c.mark c.trimmed) (h : StandsFor c trail) where
  own_table : IsOwnTable c
  own_table = record { me = is.same.0; n = is.same.1; k = is.same.2 }

  A : List Record
  A = applied c.settings.n trail

  counts : c.applied.counts ≡ vector c.settings.n (applied c.settings.n trail)
  counts = h.holds.applied.counted

  number : (client : ℕ) → number_of c.applied.lasts client ≡ guard client (applied c.settings.n trail)
  number = h.holds.applied.guarded.numbers

  stamps : (e : ℕ) → 1 ≤ e → e ≤ c.settings.n → at c.applied.counts e ≡ count e (applied c.settings.n trail)
  stamps e low high = at-vector c.settings.n e c.applied.counts (applied c.settings.n trail) counts low high

  base : c.applied.point.vector ≡ (horizon c.settings trail).base
  base = ap (λ (z : Horizon). z.base) h.pruned

  -- a snapshot covers the base
  snap_covers : (here : List ℕ) → Covers (join_of here (stable_over c)) c.applied.point.vector
  snap_covers here = Covers_trans (join_of here (stable_over c)) (stable_over c) c.applied.point.vector (Covers-join_right here (stable_over c)) (Covers_trans (stable_over c) c.mark c.applied.point.vector is.stable is.ahead)

  snap_is : (client : ℕ) (here : List ℕ) → snap_over c client (join_of here (stable_over c)) ≡ snap_at (applied c.settings.n trail) client (join_of here (stable c.settings trail))
  snap_is client here =
      ap (λ (m : ℕ). Snap (join_of here (stable_over c)) m c.applied.greatest) (mine_stands (applied c.settings.n trail) c.applied.point c.applied.log h.holds.applied.stored (join_of here (stable_over c)) client (snap_covers here))
      ∙ (ap (λ (m : ℕ). Snap (join_of here (stable_over c)) (mine client (inside (applied c.settings.n trail) (join_of here (stable_over c)))) m) h.holds.applied.ranked
      ∙ ap (λ (v : List ℕ). snap_at (applied c.settings.n trail) client (join_of here v)) (stable_is c trail own_table h))

  count_is : count_told c.applied.point c.applied.log c.mark ≡ count_inside (applied c.settings.n trail) (horizon c.settings trail).mark
  count_is =
      count_stands (applied c.settings.n trail) c.applied.point c.applied.log h.holds.applied.stored c.mark is.ahead
      ∙ (count_firsts (applied c.settings.n trail) c.mark ∙ ap (λ (z : Horizon). count_inside (applied c.settings.n trail) z.mark) h.pruned)

  asked_is : (origin after most : ℕ) → 1 ≤ origin → origin ≤ c.settings.n → at c.trimmed origin ≤ after → part_over c origin after most ≡ part_of origin (carried c.settings.n trail) after most
  asked_is origin after most low high le = keeps_part c.settings.n c.outbox c.trimmed (carried c.settings.n trail) origin after most h.holds.outbox low high le

  -- the reply to an ask for the records of an origin
  hands_is : (origin after most : ℕ) → 1 ≤ origin → origin ≤ c.settings.n → send_answer (at c.trimmed origin) (part_over c origin after most) after ≡ send_answer (at (horizon c.settings trail).trimmed origin) (part_of origin (carried c.settings.n trail) after most) after
  hands_is origin after most low high =
      send_alike (at c.trimmed origin) after (part_over c origin after most) (part_of origin (carried c.settings.n trail) after most) (asked_is origin after most low high)
      ∙ ap (λ (z : Horizon). send_answer (at z.trimmed origin) (part_of origin (carried c.settings.n trail) after most) after) h.pruned

  -- what is told of an object is what the trail tells, where the base does not exceed the first vector
  told_alike : (object : ObjectId) (from here : List ℕ) → Covers here from → Covers from c.applied.point.vector → told_of (ops_told c.applied.log object from here) (state_told c.applied.point c.applied.log object here) ≡ told_of (ops_since object (applied c.settings.n trail) from here) (state_at object (applied c.settings.n trail) here)
  told_alike object from here later kept =
      ap (λ ops. told_of ops (state_told c.applied.point c.applied.log object here)) (told_stands (applied c.settings.n trail) c.applied.point c.applied.log h.holds.applied.stored from here object kept)
      ∙ ap (told_of (ops_since object (applied c.settings.n trail) from here)) (state_stands (applied c.settings.n trail) c.applied.point c.applied.log h.holds.applied.stored here object (Covers_trans here from c.applied.point.vector later kept))

  -- the reply over what it holds is that over the trail
  row_is : (ask : Ask) → fits c.settings.n ask ≡ true → row_over c ask ≡ row c.settings trail ask
  row_is (Hello client need) fit = ap (λ (v : List ℕ). hello_answer v (number_of c.applied.lasts client) need) counts ∙ ap (λ (m : ℕ). hello_answer (vector c.settings.n (applied c.settings.n trail)) m need) (number client)
  row_is (Refresh client here) fit = ap (λ (v : List ℕ). refresh_answer v (snap_over c client (join_of here (stable_over c))) here) counts ∙ ap (λ (s : Say). refresh_answer (vector c.settings.n (applied c.settings.n trail)) s here) (snap_is client here)
  row_is (Fetch object here) fit =
      fetch_alike c.applied.counts c.applied.point.vector here (state_told c.applied.point c.applied.log object here) (state_at object (applied c.settings.n trail) here) (state_stands (applied c.settings.n trail) c.applied.point c.applied.log h.holds.applied.stored here object)
      ∙ (ap (λ (v : List ℕ). fetch_answer v c.applied.point.vector (state_at object (applied c.settings.n trail) here) here) counts
      ∙ ap (λ (v : List ℕ). fetch_answer (vector c.settings.n (applied c.settings.n trail)) v (state_at object (applied c.settings.n trail) here) here) base)
  row_is (Delta object from here) fit =
      delta_alike c.applied.counts c.applied.point.vector from here (told_of (ops_told c.applied.log object from here) (state_told c.applied.point c.applied.log object here)) (told_of (ops_since object (applied c.settings.n trail) from here) (state_at object (applied c.settings.n trail) here)) (told_alike object from here (delta_fits c.settings.n object from here fit).2)
      ∙ (ap (λ (v : List ℕ). delta_answer v c.applied.point.vector (told_of (ops_since object (applied c.settings.n trail) from here) (state_at object (applied c.settings.n trail) here)) from here) counts
      ∙ ap (λ (v : List ℕ). delta_answer (vector c.settings.n (applied c.settings.n trail)) v (told_of (ops_since object (applied c.settings.n trail) from here) (state_at object (applied c.settings.n trail) here)) from here) base)
  row_is (Commit tx) fit =
      ap (λ (v : List ℕ). commit_answer c.settings v (number_of c.applied.lasts tx.dot.client) (at c.applied.counts c.settings.me) tx) counts
      ∙ (ap (λ (m : ℕ). commit_answer c.settings (vector c.settings.n (applied c.settings.n trail)) m (at c.applied.counts c.settings.me) tx) (number tx.dot.client)
      ∙ ap (λ (m : ℕ). commit_answer c.settings (vector c.settings.n (applied c.settings.n trail)) (guard tx.dot.client (applied c.settings.n trail)) m tx) (stamps c.settings.me is.centre.0 is.centre.1))
  row_is (Send after most) fit = hands_is c.settings.me after most is.centre.0 is.centre.1
  row_is (Relay origin after most) fit =
      let range = and_parts (is_within 1 c.settings.n origin) (is_within 1 MOST_SENT most) fit in
      let centre = and_parts (nat_le 1 origin) (nat_le origin c.settings.n) range.0 in
      hands_is origin after most (leb-true 1 origin centre.0) (leb-true origin c.settings.n centre.1)
  row_is (Deliver item hops) fit =
      let f = item_fits c.settings.n item (and_parts (is_fit_item c.settings.n item) (nat_le hops MOST_HOPS) fit).0 in
      ap (λ (v : List ℕ). deliver_answer c.settings v (at c.applied.counts item.stamp.centre) (number_of c.applied.lasts item.tx.dot.client) item) counts
      ∙ (ap (λ (m : ℕ). deliver_answer c.settings (vector c.settings.n (applied c.settings.n trail)) m (number_of c.applied.lasts item.tx.dot.client) item) (stamps item.stamp.centre f.centre.0 f.centre.1)
      ∙ ap (λ (m : ℕ). deliver_answer c.settings (vector c.settings.n (applied c.settings.n trail)) (count item.stamp.centre (applied c.settings.n trail)) m item) (number item.tx.dot.client))
  row_is Report fit = ap Vector counts
  row_is (Learn from news) fit =
      let width = and_parts (is_within 1 c.settings.n from && (length news == c.settings.n)) (are_modest news) fit in
      let range = and_parts (is_within 1 c.settings.n from) (length news == c.settings.n) width.0 in
      let centre = and_parts (nat_le 1 from) (nat_le from c.settings.n) range.0 in
      ap Learned (tells_is c trail from news h (leb-true 1 from centre.0) (leb-true from c.settings.n centre.1))
  row_is Prune fit =
      ap (λ (v : List ℕ). Base v (count_told c.applied.point c.applied.log c.mark) (at (trimmed_over c) c.settings.me)) (ap (λ (z : Horizon). z.mark) h.pruned)
      ∙ (ap (λ (m : ℕ). Base (horizon c.settings trail).mark m (at (trimmed_over c) c.settings.me)) count_is
      ∙ ap (λ (v : List ℕ). Base (horizon c.settings trail).mark (count_inside (applied c.settings.n trail) (horizon c.settings trail).mark) (at v c.settings.me)) (trimmed_is c trail own_table h))
  row_is Stop fit = refl
  row_is Start fit = refl

  up_is : (ask : Ask) → fits c.settings.n ask ≡ true → up_over c ask ≡ cond (stopped trail && not (is_switch ask)) Down (row c.settings trail ask)
  up_is ask fit =
      ap (λ down. cond (down && not (is_switch ask)) Down (row_over c ask)) h.down
      ∙ ap (λ r. cond (stopped trail && not (is_switch ask)) Down r) (row_is ask fit)

  -- the answer to an ask that fits
  pub answers_up : (ask : Ask) → fits c.settings.n ask ≡ true → up_over c ask ≡ answer c.settings trail ask
  unfolding answer
  answers_up ask fit = up_is ask fit ∙ sym (rw fit refl)

  -- a stopped centre's answer to an ask that neither stops nor starts it
  pub answers_down : (ask : Ask) → fits c.settings.n ask ≡ true → (c.down && not (is_switch ask)) ≡ true → Down ≡ answer c.settings trail ask
  answers_down ask fit down = sym (ap (λ b. cond b Down (row_over c ask)) down) ∙ answers_up ask fit

-- the answer to an ask that does not fit
pub answers_misfit : (c : CentreView) (trail : List Entry) (ask : Ask) → fits c.settings.n ask ≡ false → Misfit ≡ answer c.settings trail ask
unfolding answer
answers_misfit c trail ask misfit = sym (rw misfit refl)

-- what a reply over what it holds is for each trail
pub answers_all : (c : CentreView) (ask : Ask) (r : Result (Say × Say) NoMemory) → IsCentre c.settings c.applied c.told c.mark c.trimmed → fits c.settings.n ask ≡ true → (c.down && not (is_switch ask)) ≡ false → IfOk r (λ says. says.0 ≡ row_over c ask) → IfOk r (λ says. (trail : List Entry) → StandsFor c trail → says.0 ≡ answer c.settings trail ask)
answers_all c ask (Ok says) is fit up h = λ trail stands. h ∙ (sym (ap (λ b. cond b Down (row_over c ask)) up) ∙ answers_up c trail is stands ask fit)
answers_all c ask (Err e) is fit up h = tt

-- how far it has pruned after an ask is what the trail says
horizon_alike : (c : CentreView) (trail : List Entry) (ask : Ask) (say : Say) → IsOwnTable c → StandsFor c trail → horizon_over c ask say ≡ horizon_after c.settings trail (horizon c.settings trail) ask say
horizon_alike c trail Prune (Base v folded gone) t h = λ i. record { base = (h.pruned i).mark; mark = stable_is c trail t h i; trimmed = trimmed_is c trail t h i }
horizon_alike c trail _ _ t h = h.pruned

-- what the centre stands for after an ask
pub stands_more : (old new : CentreView) (trail : List Entry) (caller : ℕ) (ask : Ask) (say : Say) → IsCentre old.settings old.applied old.told old.mark old.trimmed → Goes old new ask say → StandsFor old trail → StandsFor new (trail ++ record { caller = caller; ask = ask; say = say } ∷ [])
stands_more old new trail caller ask say is g h = record { holds = holds; told = told_more; pruned = pruned; down = down }
  where
    e : Entry
    e = record { caller = caller; ask = ask; say = say }

    n : new.settings.n ≡ old.settings.n
    n = ap (λ (s : Settings). s.n) g.settings

    me : new.settings.me ≡ old.settings.me
    me = ap (λ (s : Settings). s.me) g.settings

    holds : Holds new (carried new.settings.n (trail ++ e ∷ []))
    holds = subst (λ (C : List Sent). Holds new C) (sym (carried_push old.settings.n trail e) ∙ ap (λ (n : ℕ). carried n (trail ++ e ∷ [])) (sym n)) (g.holds (carried old.settings.n trail) h.holds)

    pruned : horizon_of new ≡ horizon new.settings (trail ++ e ∷ [])
    pruned = g.pruned ∙ (horizon_alike old trail ask say (record { me = is.same.0; n = is.same.1; k = is.same.2 }) h ∙ (sym (horizon_more old.settings trail e) ∙ ap (λ (s : Settings). horizon s (trail ++ e ∷ [])) (sym g.settings)))

    told_more : (j : ℕ) → j ≢ new.settings.me → 1 ≤ j → j ≤ new.settings.n → told_by new.told j ≡ told new.settings.n j (trail ++ e ∷ [])
    told_more j apart low high =
        g.told j (λ same. apart (same ∙ sym me))
        ∙ (ap (λ row. taught j row (taught_in ask say)) (h.told j (λ same. apart (same ∙ sym me)) low (omega (arith, high, n)))
        ∙ (sym (fold_push (λ row entry. taught j row (taught_in entry.ask entry.say)) (zeros old.settings.n) trail e)
        ∙ ap (λ n. told n j (trail ++ e ∷ [])) (sym n)))

    down : new.down ≡ stopped (trail ++ e ∷ [])
    down = g.down ∙ (ap (λ d. unwrap_or (switched_in ask say) d) h.down ∙ sym (fold_push (λ down entry. unwrap_or (switched_in entry.ask entry.say) down) false trail e))

pub stands_all : (old new : CentreView) (ask : Ask) (r : Result (Say × Say) NoMemory) → IsCentre old.settings old.applied old.told old.mark old.trimmed → IfOk r (λ says. Goes old new ask says.0) → IfOk r (λ says. (trail : List Entry) (caller : ℕ) → StandsFor old trail → StandsFor new (trail ++ record { caller = caller; ask = ask; say = says.0 } ∷ []))
stands_all old new ask (Ok says) is g = λ trail caller h. stands_more old new trail caller ask says.0 is g h
stands_all old new ask (Err e) is g = tt
