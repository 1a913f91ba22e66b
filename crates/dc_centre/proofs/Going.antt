-- How a centre goes on: with a record more, stamped by itself or delivered, with more learned, and with more folded.
use Rattle.std.proofs.Common.{◌≡◌, ◌≢◌, ◌≤◌, ◌<◌, ℕ, ◌+◌, ◌-◌, Bool, true, false, cond, ◌⊎◌, inl, inr, List, [], ◌∷◌, ◌++◌, length, get_or, Option, Some, None, refl, sym, ap, ◌∙◌, subst, arith}
use Rattle.std.specs.Prelude.{nat_le, ◌==◌, All}
use Rattle.std.specs.Option.{unwrap_or}
use Rattle.std.proofs.lemmas.Bool.{cases_Bool, eq-eqb, leb-true, leb-false}
use Rattle.std.proofs.lemmas.List.{map_push, length-map, get_or-set_same}
use Rattle.std.proofs.lemmas.List.Elements.{All-get_or}
use Rattle.list_core.proofs.Images.{filter-map}
use Rattle.list_core.proofs.Choices.{is_none_true}
use Rattle.vv_core.specs.declared.stamp.Stamp.{Stamp}
use Rattle.vv_core.specs.Vectors.{at, join_of, kth_largest, raised, Covers}
use Rattle.vv_core.proofs.Covering.{Covers_refl, Covers_trans, Covers_join, Covers-join_left, Covers-meet_right}
use Rattle.vv_core.proofs.Entrywise.{length-raised, at-raised_other, at-raised_same}
use Rattle.dup_guard.specs.declared.guard.Last.{Last}
use Rattle.dup_guard.specs.Notes.{last_at, number_in, stamp_in, number_of, stamp_of}
use Rattle.k_stable.specs.Tables.{Table, IsTable, IsLater, Learns, told_by, rows_of, stable_of, all_known_of}
use Rattle.k_stable.proofs.Rows.{length-rows_of, rows_of-set}
use Rattle.k_stable.proofs.Sound.{all_known_reach}
use Rattle.k_stable.proofs.Later.{learn_later, stable_grows, all_known_grows}
use Rattle.tx_core.specs.declared.tx.Tx.{Tx}
use Rattle.tx_core.specs.declared.tx.Record.{Record}
use Rattle.tx_core.specs.Checks.{fault_of, IsFit}
use Rattle.tx_core.proofs.Fits.{fault_of-none}
use Rattle.check_point.specs.Points.{PointView}
use Rattle.dc_talk.specs.declared.ask.Ask.{Ask}
use Rattle.dc_talk.specs.declared.ask.Ask.TheVariants.{Hello, Commit, Deliver, Prune}
use Rattle.dc_talk.specs.declared.say.Say.{Say}
use Rattle.dc_talk.specs.declared.say.Say.TheVariants.{Misfit, Down, Stamped, Applied, Base}
use Rattle.dc_talk.specs.declared.sent.Sent.{Sent}
use Rattle.dc_talk.specs.declared.settings.Settings.{Settings}
use Rattle.dc_talk.specs.Records.{count, guard, first_stamp, joined, deps_of}
use Rattle.dc_talk.specs.Sents.{with_hops, items, of_origin}
use Rattle.dc_talk.specs.Trails.{carried_on, taught, taught_in, switched_in}
use Rattle.dc_talk.specs.Answers.{fits, is_fit_item}
use Rattle.dc_talk.proofs.Counts.{own_length}
use Rattle.dc_talk.proofs.PeerAnswers.{item_fits}
use Rattle.dc_centre.specs.Applied.{AppliedView, IsNext, IsApplied}
use Rattle.dc_centre.specs.Centre.{CentreView, Holds, IsCentre, Goes, horizon_of, horizon_over, stable_over, known_over, trimmed_over}
use Rattle.dc_centre.proofs.Applying.{at-vector}
use Rattle.dc_centre.specs.Outboxes.{put_by, HasTrimmed, Keeps}
use Rattle.dc_centre.proofs.Rows.{keeps_put, keeps_trim}

-- ---- what is asked fits

-- a commit that fits has a transaction that is fit
pub commit_fits : (n : ℕ) (tx : Tx) → fits n (Commit tx) ≡ true → IsFit n tx
commit_fits n tx h = fault_of-none n tx (is_none_true (fault_of n tx) h)

-- a delivered record that is neither old nor early, and whose transaction is not early either
pub delivered_next : (n : ℕ) (x : AppliedView) (item : Record) (have through : ℕ) → length x.counts ≡ n → is_fit_item n item ≡ true → have ≡ at x.counts item.stamp.centre → through ≡ number_of x.lasts item.tx.dot.client → have < item.stamp.seq → item.stamp.seq ≤ have + 1 → item.tx.dot.number ≤ through + 1 → IsNext x item
delivered_next n x item have through wide fit is guards above high next =
    let f = item_fits n item fit in
    record {
      centre = (f.centre.0, (let le = f.centre.1 in omega (arith, wide, le)));
      seq = omega (arith, is, above, high);
      client = f.fit.client;
      low = f.fit.number.0;
      next = omega (arith, guards, next);
      few = f.fit.few;
    }

-- ---- centres as they may be

same_table : (t : Table) → IsLater t t
same_table t = record { me = refl; n = refl; k = refl; rows = λ j. Covers_refl (told_by t j) }

-- a centre with a record more
pub centre_more : (s : Settings) (x y : AppliedView) (t : Table) (mark trimmed : List ℕ) (stamp : Stamp) → IsCentre s x t mark trimmed → y.counts ≡ raised x.counts stamp → y.point ≡ x.point → at y.counts s.me ≤ s.limit → IsCentre s y t mark trimmed
centre_more s x y t mark trimmed stamp h counts point room =
    let more : Covers y.counts x.counts = subst (λ (v : List ℕ). Covers v x.counts) (sym counts) (Covers-join_left x.counts _) in
    let wide : length x.counts ≡ t.n = h.width ∙ sym h.same.1 in
    let same : length y.counts ≡ length x.counts = ap (λ (v : List ℕ). length v) counts ∙ length-raised x.counts stamp in
    record {
      centre = h.centre;
      few = h.few;
      known = h.known;
      most = h.most;
      width = same ∙ h.width;
      table = h.table;
      same = h.same;
      room = room;
      marked = h.marked;
      ahead = subst (λ (p : PointView). Covers mark p.vector) (sym point) h.ahead;
      stable = Covers_trans (stable_of t y.counts) (stable_of t x.counts) mark (stable_grows t t x.counts y.counts (same_table t) more h.table h.table wide (same ∙ wide)) h.stable;
      let_go = h.let_go;
      gone = Covers_trans (all_known_of t y.counts) (all_known_of t x.counts) trimmed (all_known_grows t t x.counts y.counts (same_table t) more) h.gone;
    }

-- a centre that stamped a record
pub centre_stamped : (s : Settings) (x y : AppliedView) (t : Table) (mark trimmed : List ℕ) (stamp : Stamp) → IsCentre s x t mark trimmed → y.counts ≡ raised x.counts stamp → y.point ≡ x.point → stamp ≡ record { centre = s.me; seq = at x.counts s.me + 1 } → at x.counts s.me < s.limit → IsCentre s y t mark trimmed
centre_stamped s x y t mark trimmed stamp h counts point is room =
    let centre : stamp.centre ≡ s.me = ap (λ (a : Stamp). a.centre) is in
    let seq : stamp.seq ≡ at x.counts s.me + 1 = ap (λ (a : Stamp). a.seq) is in
    let low = h.centre.0 in
    let high = h.centre.1 in
    let width = h.width in
    let raises = at-raised_same x.counts stamp (omega (arith, centre, low)) (omega (arith, centre, high, width)) in
    let here : at y.counts s.me ≡ at (raised x.counts stamp) stamp.centre = ap (λ (v : List ℕ). at v s.me) counts ∙ ap (at (raised x.counts stamp)) (sym centre) in
    let before : at x.counts stamp.centre ≡ at x.counts s.me = ap (at x.counts) centre in
    centre_more s x y t mark trimmed stamp h counts point (omega (arith, here, raises, before, seq, room))

-- a centre that applied a record of another one
pub centre_received : (s : Settings) (x y : AppliedView) (t : Table) (mark trimmed : List ℕ) (stamp : Stamp) → IsCentre s x t mark trimmed → y.counts ≡ raised x.counts stamp → y.point ≡ x.point → stamp.centre ≢ s.me → IsCentre s y t mark trimmed
centre_received s x y t mark trimmed stamp h counts point other =
    let same : at y.counts s.me ≡ at x.counts s.me = ap (λ (v : List ℕ). at v s.me) counts ∙ at-raised_other x.counts stamp s.me (λ e. other (sym e)) in
    let room = h.room in
    centre_more s x y t mark trimmed stamp h counts point (omega (arith, same, room))

-- a centre that learned a vector
pub centre_learned : (s : Settings) (x : AppliedView) (t more : Table) (mark trimmed : List ℕ) (from : ℕ) (news : List ℕ) → IsCentre s x t mark trimmed → IsTable more → Learns t more from news → IsCentre s x more mark trimmed
centre_learned s x t more mark trimmed from news h table learns =
    let later = learn_later t more from news learns in
    let wide : length x.counts ≡ t.n = h.width ∙ sym h.same.1 in
    record {
      centre = h.centre;
      few = h.few;
      known = h.known;
      most = h.most;
      width = h.width;
      table = table;
      same = (later.me ∙ h.same.0, later.n ∙ h.same.1, later.k ∙ h.same.2);
      room = h.room;
      marked = h.marked;
      ahead = h.ahead;
      stable = Covers_trans (stable_of more x.counts) (stable_of t x.counts) mark (stable_grows t more x.counts x.counts later (Covers_refl x.counts) h.table table wide (wide ∙ sym later.n)) h.stable;
      let_go = h.let_go;
      gone = Covers_trans (all_known_of more x.counts) (all_known_of t x.counts) trimmed (all_known_grows t more x.counts x.counts later (Covers_refl x.counts)) h.gone;
    }

-- a centre that folded up to its mark, marked what is stable now, and let go what all are known to have
pub centre_pruned : (s : Settings) (x y : AppliedView) (t : Table) (mark trimmed news gone : List ℕ) → IsCentre s x t mark trimmed → y.counts ≡ x.counts → y.point.vector ≡ mark → news ≡ stable_of t x.counts → length news ≡ s.n → gone ≡ join_of trimmed (all_known_of t x.counts) → length gone ≡ s.n → IsCentre s y t news gone
centre_pruned s x y t mark trimmed news gone h counts base stable marked joined width = record {
  centre = h.centre;
  few = h.few;
  known = h.known;
  most = h.most;
  width = ap (λ (v : List ℕ). length v) counts ∙ h.width;
  table = h.table;
  same = h.same;
  room = subst (λ v. at v s.me ≤ s.limit) (sym counts) h.room;
  marked = marked;
  ahead = subst (Covers news) (sym base) (subst (λ v. Covers v mark) (sym stable) h.stable);
  stable = subst (λ v. Covers (stable_of t v) news) (sym counts) (subst (Covers (stable_of t x.counts)) (sym stable) (Covers_refl (stable_of t x.counts)));
  let_go = width;
  gone = subst (λ v. Covers (all_known_of t v) gone) (sym counts) (subst (Covers (all_known_of t x.counts)) (sym joined) (Covers_join (all_known_of t x.counts) trimmed (all_known_of t x.counts) h.gone (Covers_refl (all_known_of t x.counts))));
}

-- what is stable is here
pub stable_here : (t : Table) (counts : List ℕ) → Covers counts (stable_of t counts)
stable_here t counts = Covers-meet_right (kth_largest t.k (rows_of t counts)) counts

-- and so is what it will fold
pub mark_here : (s : Settings) (x : AppliedView) (t : Table) (mark trimmed : List ℕ) → IsCentre s x t mark trimmed → Covers x.counts mark
mark_here s x t mark trimmed h = Covers_trans x.counts (stable_of t x.counts) mark (stable_here t x.counts) h.stable

-- ---- what is held

-- the dependency vector of a client's next transaction
pub deps_are : (n : ℕ) (x : AppliedView) (A : List Record) (tx : Tx) → IsApplied n x A → tx.dot.number ≡ number_of x.lasts tx.dot.client + 1 → joined n tx.snap (stamp_of x.lasts tx.dot.client) ≡ deps_of n A tx
deps_are n x A tx h next = go (cases_Bool (nat_le 2 tx.dot.number))
  where
    number : number_of x.lasts tx.dot.client ≡ guard tx.dot.client A
    number = h.guarded.numbers tx.dot.client

    -- no number, no stamp
    unstamped : (last : Option Last) → number_in last ≡ 0 → stamp_in last ≡ None
    unstamped None is = refl
    unstamped (Some last) is = ap (λ b. cond b None (Some last.stamp)) (eq-eqb last.number 0 is)

    go : (nat_le 2 tx.dot.number ≡ true) ⊎ (nat_le 2 tx.dot.number ≡ false) → joined n tx.snap (stamp_of x.lasts tx.dot.client) ≡ deps_of n A tx
    go (inl t) =
        let two = leb-true 2 tx.dot.number t in
        ap (joined n tx.snap) (h.guarded.stamps tx.dot.client (omega (arith, two, next, number)))
        ∙ sym (ap (λ b. cond b (joined n tx.snap (first_stamp (record { client = tx.dot.client; number = guard tx.dot.client A }) A)) tx.snap) t)
    go (inr f) =
        let one = leb-false 2 tx.dot.number f in
        ap (joined n tx.snap) (unstamped (last_at x.lasts tx.dot.client) (omega (arith, one, next)))
        ∙ sym (ap (λ b. cond b (joined n tx.snap (first_stamp (record { client = tx.dot.client; number = guard tx.dot.client A }) A)) tx.snap) f)

-- what all know of any centre's records is within the own vector
known_within : (t : Table) (own : List ℕ) → IsTable t → (e : ℕ) → 1 ≤ e → e ≤ t.n → at (all_known_of t own) e ≤ at own e
known_within t own is e low high =
    let m = at (all_known_of t own) e in
    let all : All (λ row. m ≤ at row e) (rows_of t own) = (all_known_reach t own e m is low high).0 (omega arith) in
    let row : get_or (rows_of t own) (t.me - 1) [] ≡ own = ap (λ rows. get_or rows (t.me - 1) []) (rows_of-set t own is) ∙ get_or-set_same t.rows (t.me - 1) own [] (let low = is.centre.0 in let high = is.centre.1 in let count = is.count in omega (arith, low, high, count)) in
    subst (λ row. m ≤ at row e) row (All-get_or (λ row. m ≤ at row e) (rows_of t own) (t.me - 1) [] (let count = length-rows_of t own in let low = is.centre.0 in let high = is.centre.1 in omega (arith, count, low, high)) all)

-- as many records of an origin as are counted
of_origin_long : (e : ℕ) (C : List Sent) → length (of_origin e C) ≡ count e (items C)
of_origin_long e C =
    sym (length-map (of_origin e C) (λ (x : Sent). x.item))
    ∙ (ap length (sym (filter-map (λ (r : Record). r.stamp.centre == e) (λ (x : Sent). x.item) C)) ∙ own_length e (items C))

-- what it lets go, all are known to have
gone_known : (c : CentreView) → IsCentre c.settings c.applied c.told c.mark c.trimmed → Covers (known_over c) (trimmed_over c)
gone_known c is = Covers_join (known_over c) c.trimmed (known_over c) is.gone (Covers_refl (known_over c))

-- what it lets go, it has
gone_few : (c : CentreView) (C : List Sent) → IsCentre c.settings c.applied c.told c.mark c.trimmed → IsApplied c.settings.n c.applied (items C) → (e : ℕ) → 1 ≤ e → e ≤ c.settings.n → at (trimmed_over c) e ≤ length (of_origin e C)
gone_few c C is h e low high =
    let gone = (gone_known c is).holds e in
    let known = known_within c.told c.applied.counts is.table e low (let n = is.same.1 in omega (arith, high, n)) in
    let counts = at-vector c.settings.n e c.applied.counts (items C) h.counted low high in
    let long = of_origin_long e C in
    omega (arith, gone, known, counts, long)

-- ---- how it goes on

-- with a record that it stamps
pub goes_stamped : (c : CentreView) (y : AppliedView) (outbox : List (List Sent)) (tx : Tx) (r : Record) → IsCentre c.settings c.applied c.told c.mark c.trimmed → tx.dot.number ≡ number_of c.applied.lasts tx.dot.client + 1 → r ≡ record { stamp = record { centre = c.settings.me; seq = at c.applied.counts c.settings.me + 1 }; deps = joined c.settings.n tx.snap (stamp_of c.applied.lasts tx.dot.client); tx = tx } → ((A : List Record) → IsApplied c.settings.n c.applied A → IsApplied c.settings.n y (A ++ r ∷ [])) → y.point ≡ c.applied.point → outbox ≡ put_by c.outbox (with_hops r 0) → Goes c (record c { applied = y; outbox = outbox }) (Commit tx) (Stamped (record { centre = c.settings.me; seq = at c.applied.counts c.settings.me + 1 }))
goes_stamped c y outbox tx r is next made grows point sent = record {
  settings = refl;
  holds = λ C h.
      let stamp : Stamp = record { centre = c.settings.me; seq = at c.applied.counts c.settings.me + 1 } in
      let deps = deps_are c.settings.n c.applied (items C) tx h.applied next in
      let same : r ≡ record { stamp = stamp; deps = deps_of c.settings.n (items C) tx; tx = tx } = made ∙ (λ i. record { stamp = stamp; deps = deps i; tx = tx }) in
      let own : r.stamp.centre ≡ c.settings.me = ap (λ (q : Record). q.stamp.centre) made in
      subst (λ (q : Record). Holds (record c { applied = y; outbox = outbox }) (C ++ with_hops q 0 ∷ [])) same (record {
        applied = subst (IsApplied c.settings.n y) (sym (map_push (λ (x : Sent). x.item) C (with_hops r 0))) (grows (items C) h.applied);
        outbox = subst (λ rows. Keeps c.settings.n rows c.trimmed (C ++ with_hops r 0 ∷ [])) (sym sent) (keeps_put c.settings.n c.outbox c.trimmed C (with_hops r 0) is.few h.outbox (subst (λ e. 1 ≤ e) (sym own) is.centre.0) (subst (λ e. e ≤ c.settings.n) (sym own) is.centre.1));
      });
  told = λ j other. refl;
  pruned = λ i. record { base = (point i).vector; mark = c.mark; trimmed = c.trimmed };
  down = refl;
}

-- with a record of another one
pub goes_delivered : (c : CentreView) (y : AppliedView) (outbox : List (List Sent)) (item : Record) (hops : ℕ) (fresh : Bool) → IsCentre c.settings c.applied c.told c.mark c.trimmed → (1 ≤ item.stamp.centre) × (item.stamp.centre ≤ c.settings.n) → ((A : List Record) → IsApplied c.settings.n c.applied A → IsApplied c.settings.n y (A ++ item ∷ [])) → y.point ≡ c.applied.point → outbox ≡ put_by c.outbox (with_hops item (hops + 1)) → Goes c (record c { applied = y; outbox = outbox }) (Deliver item hops) (Applied fresh)
goes_delivered c y outbox item hops fresh is range grows point sent = record {
  settings = refl;
  holds = λ C h. record {
    applied = subst (IsApplied c.settings.n y) (sym (map_push (λ (x : Sent). x.item) C (with_hops item (hops + 1)))) (grows (items C) h.applied);
    outbox = subst (λ rows. Keeps c.settings.n rows c.trimmed (C ++ with_hops item (hops + 1) ∷ [])) (sym sent) (keeps_put c.settings.n c.outbox c.trimmed C (with_hops item (hops + 1)) is.few h.outbox range.0 range.1);
  };
  told = λ j other. refl;
  pruned = λ i. record { base = (point i).vector; mark = c.mark; trimmed = c.trimmed };
  down = refl;
}

-- with more folded and let go
pub goes_pruned : (c : CentreView) (y : AppliedView) (mark : List ℕ) (outbox : List (List Sent)) (trimmed : List ℕ) (folded : ℕ) → IsCentre c.settings c.applied c.told c.mark c.trimmed → ((A : List Record) → IsApplied c.settings.n c.applied A → IsApplied c.settings.n y A) → y.point.vector ≡ c.mark → mark ≡ stable_over c → trimmed ≡ trimmed_over c → HasTrimmed c.settings.n c.trimmed trimmed c.outbox outbox → Goes c (record c { applied = y; mark = mark; trimmed = trimmed; outbox = outbox }) Prune (Base c.mark folded (at trimmed c.settings.me))
goes_pruned c y mark outbox trimmed folded is same base stable gone went = record {
  settings = refl;
  holds = λ C h. record {
    applied = same (items C) h.applied;
    outbox = keeps_trim c.settings.n c.outbox outbox c.trimmed trimmed C h.outbox went (λ e. subst (λ v. at c.trimmed e ≤ at v e) (sym gone) ((Covers-join_left c.trimmed (known_over c)).holds e)) (λ e low high. subst (λ v. at v e ≤ length (of_origin e C)) (sym gone) (gone_few c C is h.applied e low high));
  };
  told = λ j other. refl;
  pruned = λ i. record { base = base i; mark = stable i; trimmed = gone i };
  down = refl;
}

-- where the ask does not fit, or the centre is stopped, it stays as it is
abbrev still : (c : CentreView) (ask : Ask) (say : Say) → ((C : List Sent) → carried_on c.settings.n C ask say ≡ C) → taught_in ask say ≡ None → horizon_over c ask say ≡ horizon_of c → switched_in ask say ≡ None → Goes c c ask say
still c ask say records told pruned down = record {
  settings = refl;
  holds = λ C h. subst (λ (D : List Sent). Holds c D) (sym (records C)) h;
  told = λ j other. ap (taught j (told_by c.told j)) (sym told);
  pruned = sym pruned;
  down = ap (λ (o : Option Bool). unwrap_or o c.down) (sym down);
}

pub goes_misfit : (c : CentreView) (ask : Ask) → Goes c c ask Misfit
goes_misfit c (Hello client need) = still c (Hello client need) Misfit (λ C. refl) refl refl refl
goes_misfit c _ = still c _ Misfit (λ C. refl) refl refl refl

pub goes_down : (c : CentreView) (ask : Ask) → Goes c c ask Down
goes_down c (Hello client need) = still c (Hello client need) Down (λ C. refl) refl refl refl
goes_down c _ = still c _ Down (λ C. refl) refl refl refl
