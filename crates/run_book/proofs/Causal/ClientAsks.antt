-- How the asks of clients are answered in a book that fits.
use Rattle.std.proofs.Common.{◌≡◌, ℕ, zero, suc, ◌+◌, ◌-◌, ◌≤◌, inl, inr, Bool, true, false, cond, List, [], ◌∷◌, length, take, Some, refl, sym, ap, ◌∙◌, subst, arith}
use Rattle.std.specs.Prelude.{slice_get, ◌==◌, ◌&&◌, not, nat_le, is_none, filter, flat_map, All}
use Rattle.std.proofs.lemmas.Bool.{and_from, le-leb, lt-leb, eq-eqb}
use Rattle.std.proofs.lemmas.List.Elements.{All-head, All-tail}
use Rattle.std.proofs.lemmas.List.Sums.{list_all-from_AllPass}
use Rattle.list_core.specs.Members.{In}
use Rattle.list_core.specs.Choices.{first_of}
use Rattle.list_core.specs.Moments.{Each}
use Rattle.list_core.proofs.Choices.{first_of_holds, when_holds, when_fails}
use Rattle.list_core.proofs.Members.{In-All, In_from_map, In_from_filter, In_from_flat_map}
use Rattle.list_core.proofs.Gets.{get_in_drop, get_In, In_get}
use Rattle.ids_core.specs.declared.ids.Dot.{Dot}
use Rattle.ids_core.specs.declared.ids.Mark.{Mark}
use Rattle.ids_core.specs.declared.object.ObjectId.{ObjectId}
use Rattle.ids_core.specs.declared.object.Sort.{Sort}
use Rattle.ids_core.specs.declared.object.Sort.TheVariants as sort
use Rattle.ids_core.specs.Ids.{same_object, same_sort}
use Rattle.ids_core.specs.Same.{same_object-true, same_sort-itself}
use Rattle.vv_core.specs.Vectors.{within, join_of, covers, Covers}
use Rattle.vv_core.proofs.Covering.{Covers_trans, covers_from}
use Rattle.tx_core.specs.declared.op.Op.{Op}
use Rattle.tx_core.specs.declared.tx.Update.{Update}
use Rattle.tx_core.specs.declared.tx.Tx.{Tx}
use Rattle.tx_core.specs.declared.tx.Record.{Record}
use Rattle.tx_core.specs.declared.state.State.{State}
use Rattle.tx_core.specs.Checks.{IsFitUpdate}
use Rattle.tx_core.specs.Ops.{sort_of_op}
use Rattle.tx_core.specs.States.{empty_of, sort_of}
use Rattle.tx_core.proofs.Fits.{none-fault_of}
use Rattle.tx_core.proofs.Folds.{fold_of-sort}
use Rattle.dc_talk.specs.declared.ask.Ask.{Ask}
use Rattle.dc_talk.specs.declared.ask.Ask.TheVariants.{Hello, Refresh, Fetch, Delta, Commit}
use Rattle.dc_talk.specs.declared.say.Say.{Say}
use Rattle.dc_talk.specs.declared.say.Say.TheVariants.{Misfit, Down, Lacks, Pruned, Object, Changes}
use Rattle.dc_talk.specs.declared.calls.Connection.{Connection}
use Rattle.dc_talk.specs.declared.ask.TheConstants.{MOST_CHANGES}
use Rattle.dc_talk.specs.declared.settings.Settings.{Settings}
use Rattle.dc_talk.specs.Entries.{Entry}
use Rattle.dc_talk.specs.Laws.{IsInOrder}
use Rattle.dc_talk.specs.Records.{count, vector, guard, inside, has, firsts}
use Rattle.dc_talk.specs.Objects.{state_at, ops_since}
use Rattle.dc_talk.specs.Trails.{stable}
use Rattle.dc_talk.specs.Answers.{fits, lacking, told_of, snap_at, row}
use Rattle.dc_talk.specs.Clients.{Client, settled, same_vector}
use Rattle.dc_talk.specs.Rule.{takes, holds, are_of_sort, IsLinked, Sends, next_commit}
use Rattle.dc_talk.proofs.Answers.{lack_first, lack_none, lack_fails, commit_holds, answer_holds, no_misfit}
use Rattle.dc_talk.proofs.ClientAnswers.{object_by, changes_by, whole_by}
use Rattle.dc_talk.proofs.Counts.{in_guard}
use Rattle.dc_talk.proofs.Firsts.{firsts_in}
use Rattle.dc_talk.proofs.Growth.{later_covers, later_guard}
use Rattle.run_book.specs.Setups.{Setup, centre_settings}
use Rattle.run_book.specs.declared.book.Book.{Book}
use Rattle.run_book.specs.Parts.{trail_of, notes_of, IsClient, applied_at, horizon_at}
use Rattle.run_book.specs.Fit.{FitsWith}
use Rattle.run_book.specs.Graphs.{cover, client_at, commits_at}
use Rattle.run_book.specs.Refusals.{Makes, IsPushAnswer, IsNoRefusal, IsFetchAnswer, IsFetched, IsDeltaAnswer, IsToldSince}
use Rattle.run_book.proofs.Numbered.{numbered_at}
use Rattle.run_book.proofs.Held.{Held, dot_at, held_after}
use Rattle.run_book.proofs.Growth.{wide_after}
use Rattle.run_book.proofs.Pairing.{HasEntry, has_entry}
use Rattle.run_book.proofs.Snapshots.{same_refresh}
use Rattle.run_book.proofs.ObjectAsks.{same_vector-itself, fetch_asked, IsDeltaAsked, delta_asked, delta_held}
use Rattle.run_book.proofs.Causal.Origins.{each_at}
use Rattle.run_book.proofs.Causal.OneList.{covered_inside}
use Rattle.run_book.proofs.Causal.SessionStates.{standing}
use Rattle.run_book.proofs.Causal.Links.{same_hello, no_sooner, linked}
use Rattle.run_book.proofs.Causal.FitCommits.{commits_fit}
use Rattle.ids_core.specs.declared.limits.TheConstants.{MOST_CLIENTS}
use Rattle.tx_core.specs.Checks.{is_within}
use Rattle.tx_core.specs.Operations.{mark, ops_from, ops_of}

-- ---- states and vectors

-- the first state of a kind is of that kind
sort_of_empty : (k : Sort) → sort_of (empty_of k) ≡ k
sort_of_empty sort.Counter = refl
sort_of_empty sort.Register = refl
sort_of_empty sort.Set = refl
sort_of_empty sort.Map = refl

-- a state that a centre gives is of its object's kind
sort_of_state : (o : ObjectId) (A : List Record) (w : List ℕ) → sort_of (state_at o A w) ≡ o.sort
sort_of_state o A w = fold_of-sort (empty_of o.sort) (flat_map (λ (r : Record). ops_of o r.tx) (filter (λ (r : Record). has r.tx.dot (inside A w)) (firsts A))) ∙ sort_of_empty o.sort

-- the operations of fit updates on an object are of its kind
kinds_from : (o : ObjectId) (rank : ℕ) (dot : Dot) (place : ℕ) (us : List Update) → All IsFitUpdate us → (op : Mark × Op) → In op (ops_from o rank dot place us) → sort_of_op op.1 ≡ o.sort
kinds_from o rank dot place [] fit op i = absurd i
kinds_from o rank dot place (u ∷ us) fit op i = go (same_object u.object o) refl (λ j. kinds_from o rank dot (place + 1) us (All-tail IsFitUpdate u us fit) op j) i
  where
    go : (b : Bool) → same_object u.object o ≡ b → (In op (ops_from o rank dot (place + 1) us) → sort_of_op op.1 ≡ o.sort) → In op (cond b ((mark rank dot place, u.op) ∷ ops_from o rank dot (place + 1) us) (ops_from o rank dot (place + 1) us)) → sort_of_op op.1 ≡ o.sort
    go true is rest (inl same) = ap (λ (op : Mark × Op). sort_of_op op.1) same ∙ ((All-head IsFitUpdate u us fit).kind ∙ ap (λ (o : ObjectId). o.sort) (same_object-true u.object o is))
    go true is rest (inr j) = rest j
    go false is rest j = rest j

-- so are those that a centre tells
kinds_since : (s : Settings) (A : List Record) (o : ObjectId) (from here : List ℕ) → Each (IsInOrder s) A → are_of_sort o.sort (ops_since o A from here) ≡ true
kinds_since s A o from here each = list_all-from_AllPass (λ (marked : Mark × Op). same_sort (sort_of_op marked.1) o.sort) (ops_since o A from here) (In-All (λ (marked : Mark × Op). same_sort (sort_of_op marked.1) o.sort ≡ true) (ops_since o A from here) of_kind)
  where
    came : Record → Bool
    came r = has r.tx.dot (inside A here) && not (has r.tx.dot (inside A from))

    of_kind : (op : Mark × Op) → In op (flat_map (λ (r : Record). ops_of o r.tx) (filter (λ (r : Record). has r.tx.dot (inside A here) && not (has r.tx.dot (inside A from))) (firsts A))) → same_sort (sort_of_op op.1) o.sort ≡ true
    of_kind op i =
        let r = In_from_flat_map (λ (r : Record). ops_of o r.tx) (filter came (firsts A)) op i in
        let f = In_from_filter came (firsts A) r.0 r.1 in
        let g = In_get A r.0 (firsts_in [] A r.0 f.0) in
        let kind : sort_of_op op.1 ≡ o.sort = kinds_from o r.0.tx.rank r.0.tx.dot 0 r.0.tx.updates (each.holds g.0 r.0 g.1).fit.updates op r.2 in
        ap (λ k. same_sort k o.sort) kind ∙ same_sort-itself o.sort

-- what is no refusal
no_refusal : (say : Say) → (say ≡ Misfit → ⊥) → ((centre need have : ℕ) → say ≡ Lacks centre need have → ⊥) → IsNoRefusal say
no_refusal say fits lacks = record { fits = fits; lacks = lacks }

module _ (b : Book) (setup : Setup) (fit : FitsWith b setup) (a m : ℕ) (client : IsClient setup a) where
  -- ---- what the centre has

  -- the entry of an ask that the client makes
  entry_of : (i : ℕ) (ask : Ask) (say : Say) → Makes b setup (record { actor = a; place = m; centre = i; ask = ask; answer = say }) → HasEntry b setup i (record { caller = a; ask = ask; say = say }) (take m (notes_of b a))
  entry_of i ask say x = has_entry b setup fit a m x.note i ask x.fate say (omega (arith, client.low)) (omega (arith, client.high, fit.form.logs)) x.there x.deed_is x.told

  -- the client is the actor's
  who : (client_at b setup a m).client ≡ a - 1
  who = (held_after b.n (a - 1) setup.capacity (notes_of b a) (fit.follows a client) m).who

  -- its number is in range
  is_numbered : (c : ℕ) → c ≡ (client_at b setup a m).client → is_within 1 MOST_CLIENTS c ≡ true
  is_numbered c same = and_from (nat_le 1 c) (nat_le c MOST_CLIENTS) (le-leb 1 c (omega (arith, same, who, client.low))) (le-leb c MOST_CLIENTS (omega (arith, same, who, client.low, client.high, fit.form.clients_range.1)))

  -- its vector has an entry for each centre
  is_wide : (here : List ℕ) → here ≡ (client_at b setup a m).vector → (length here == b.n) ≡ true
  is_wide here same = eq-eqb (length here) b.n (ap length same ∙ wide_after b.n (a - 1) setup.capacity (take m (notes_of b a)))

  -- at an exchange the connected centre has what the session's vector covers, and what the link says
  record HasLinked (link : Connection) (place : ℕ) : Type 0 where
    covered : Covers (vector b.n (applied_at b link.centre place)) (client_at b setup a m).vector
    sent : link.sent ≤ guard (a - 1) (applied_at b link.centre place)

  -- so it is at each exchange
  has_linked : (link : Connection) → (client_at b setup a m).link ≡ Some link → (ask : Ask) (say : Say) (x : HasEntry b setup link.centre (record { caller = a; ask = ask; say = say }) (take m (notes_of b a))) → HasLinked link x.place
  has_linked link is ask say x =
      let r = linked b setup fit a client m link is in
      let le = no_sooner b setup a (take m (notes_of b a)) (client_at b setup a m).vector link ask say x r in
      record {
        covered = Covers_trans _ _ _ (later_covers b.n (trail_of b link.centre) r.place x.place le) r.covered;
        sent = omega (arith, r.sent, later_guard b.n (a - 1) (trail_of b link.centre) r.place x.place le);
      }

  -- a centre that can serve the session's vector has the client's commits within its snapshot
  mine_there : (i p : ℕ) → 1 ≤ i → i ≤ b.n → Covers (vector b.n (applied_at b i p)) (client_at b setup a m).vector → (k : ℕ) → k ≡ (client_at b setup a m).mine → k ≤ guard (a - 1) (applied_at b i p)
  mine_there i p low high le zero is = omega arith
  mine_there i p low high le (suc k) is =
      let A = applied_at b i p in
      let v = (client_at b setup a m).vector in
      let d = dot_at (a - 1) (suc k) in
      let here : In d (cover b v) = (standing b setup fit a client m).own_all (suc k) (omega arith) (omega (arith, is)) in
      let f = In_from_map (λ (r : Record). r.tx.dot) (filter (λ (r : Record). within r.stamp v) A) d (covered_inside b setup fit i p low high v d le here) in
      let g = In_from_filter (λ (r : Record). within r.stamp v) A f.0 f.1 in
      let same : guard f.0.tx.dot.client A ≡ guard (a - 1) A = sym (ap (λ (d : Dot). guard d.client A) f.2) in
      omega (arith, in_guard A f.0 g.0, same, ap (λ (d : Dot). d.number) f.2)

  -- ---- a push

  -- the next commit of a session, at the connected centre
  push_at : (link : Connection) (tx : Tx) (say : Say) → (client_at b setup a m).link ≡ Some link → next_commit (client_at b setup a m) link ≡ Some tx → HasEntry b setup link.centre (record { caller = a; ask = Commit tx; say = say }) (take m (notes_of b a)) → IsPushAnswer say
  push_at link tx say is next x = subst IsPushAnswer (sym x.is) (answer_holds IsPushAnswer (centre_settings b setup link.centre) X (Commit tx) fits_it tt (commit_holds IsPushAnswer (centre_settings b setup link.centre) (vector b.n A) (guard tx.dot.client A) (count link.centre A) tx (
    when_holds _ _ _ (λ t. tt),
    λ known. (
      when_fails _ _ _ (lt-leb (guard tx.dot.client A + 2) tx.dot.number (omega (arith, in_order))),
      λ out. (lack_fails _ Lacks (vector b.n A) tx.snap snap, λ covered. (when_holds _ _ _ (λ t. tt), λ full. tt)),
    ),
  )))
    where
      s : Client
      s = client_at b setup a m

      X : List Entry
      X = take x.place (trail_of b link.centre)

      A : List Record
      A = applied_at b link.centre x.place

      C : List Tx
      C = commits_at b setup a m

      held : Held (a - 1) s C
      held = held_after b.n (a - 1) setup.capacity (notes_of b a) (fit.follows a client) m

      centre_has : HasLinked link x.place
      centre_has = has_linked link is (Commit tx) say x

      place : ℕ
      place = s.mine + (settled s link - s.mine)

      there : slice_get C place ≡ Some tx
      there = get_in_drop s.mine C (settled s link - s.mine) tx (ap (λ l. slice_get l (settled s link - s.mine)) (sym held.waiting) ∙ next)

      dot : tx.dot ≡ dot_at (a - 1) (1 + place)
      dot = numbered_at (λ (t : Tx). t.dot) (dot_at (a - 1)) 1 C place tx held.dots there

      same : guard tx.dot.client A ≡ guard (a - 1) A
      same = ap (λ (d : Dot). guard d.client A) dot

      in_order : tx.dot.number ≤ guard tx.dot.client A + 1
      in_order = omega (arith, same, ap (λ (d : Dot). d.number) dot, centre_has.sent, mine_there link.centre x.place x.low x.high centre_has.covered s.mine refl)

      snap : Covers (vector b.n A) tx.snap
      snap = Covers_trans _ _ _ centre_has.covered ((standing b setup fit a client m).snaps tx (get_In C place tx there))

      fits_it : fits b.n (Commit tx) ≡ true
      fits_it = ap is_none (none-fault_of b.n tx (commits_fit b setup fit a m tx client (get_In C place tx there)))

  -- a push is answered with a stamp, or as known, for want of room, or by a stopped centre
  pub push : (i : ℕ) (tx : Tx) (say : Say) → Makes b setup (record { actor = a; place = m; centre = i; ask = Commit tx; answer = say }) → IsPushAnswer say
  push i tx say x =
      let sends : Sends (client_at b setup a m) i tx = x.gives in
      push_at sends.link tx say sends.linked sends.next (subst (λ i. HasEntry b setup i (record { caller = a; ask = Commit tx; say = say }) (take m (notes_of b a))) (sym sends.centre) (entry_of i (Commit tx) say x))

  -- ---- a refresh

  -- an ask at the session's vector, of the connected centre, where only what is lacking could be refused
  linked_at : (link : Connection) (ask : Ask) (say last : Say) → (client_at b setup a m).link ≡ Some link → fits b.n ask ≡ true → (x : HasEntry b setup link.centre (record { caller = a; ask = ask; say = say }) (take m (notes_of b a))) → row (centre_settings b setup link.centre) (take x.place (trail_of b link.centre)) ask ≡ first_of (lacking Lacks (vector b.n (applied_at b link.centre x.place)) (client_at b setup a m).vector ∷ []) last → IsNoRefusal last → IsNoRefusal say
  linked_at link ask say last is fits_it x row_is fine =
      let v = (client_at b setup a m).vector in
      let A = applied_at b link.centre x.place in
      let covered = (has_linked link is ask say x).covered in
      let by_row : IsNoRefusal (first_of (lacking Lacks (vector b.n A) v ∷ []) last) = first_of_holds IsNoRefusal (lacking Lacks (vector b.n A) v ∷ []) last (lack_fails IsNoRefusal Lacks (vector b.n A) v covered, λ none. fine) in
      subst IsNoRefusal (sym x.is) (answer_holds IsNoRefusal (centre_settings b setup link.centre) (take x.place (trail_of b link.centre)) ask fits_it (no_refusal _ (λ e. cc) (λ c n h e. cc)) (subst IsNoRefusal (sym row_is) by_row))

  -- a refresh is answered neither with a misfit nor with a refusal for what is lacking
  pub refresh : (i c : ℕ) (here : List ℕ) (say : Say) → Makes b setup (record { actor = a; place = m; centre = i; ask = Refresh c here; answer = say }) → IsNoRefusal say
  refresh i c here say made =
      let same = same_refresh c (client_at b setup a m).client here (client_at b setup a m).vector made.gives.0 in
      let g : IsLinked (client_at b setup a m) i = made.gives.1 in
      let x = subst (λ i. HasEntry b setup i (record { caller = a; ask = Refresh c here; say = say }) (take m (notes_of b a))) (sym g.centre) (entry_of i (Refresh c here) say made) in
      linked_at g.link (Refresh c here) say _ g.linked (and_from (is_within 1 MOST_CLIENTS c) (length here == b.n) (is_numbered c same.0) (is_wide here same.1)) x
      (ap (λ v. first_of (lacking Lacks (vector b.n (applied_at b g.link.centre x.place)) v ∷ []) (snap_at (applied_at b g.link.centre x.place) c (join_of here (stable (centre_settings b setup g.link.centre) (take x.place (trail_of b g.link.centre)))))) same.1)
      (no_refusal _ (λ e. cc) (λ c n h e. cc))

  -- ---- a fetch

  -- a fetch at the session's vector, of the connected centre
  fetch_at : (link : Connection) (o : ObjectId) (here : List ℕ) (say : Say) → (client_at b setup a m).link ≡ Some link → here ≡ (client_at b setup a m).vector → HasEntry b setup link.centre (record { caller = a; ask = Fetch o here; say = say }) (take m (notes_of b a)) → IsFetched b setup (record { actor = a; place = m; centre = link.centre; ask = Fetch o here; answer = say }) here
  fetch_at link o here say is same x = record {
    place = x.place;
    there = x.there;
    answer = subst (IsFetchAnswer base here) (sym x.is) (answer_holds (IsFetchAnswer base here) (centre_settings b setup link.centre) (take x.place (trail_of b link.centre)) (Fetch o here) (is_wide here same) tt
        (first_of_holds (IsFetchAnswer base here) (lacking Lacks (vector b.n A) here ∷ lacking Pruned here base ∷ []) (Object (state_at o A here))
        (lack_fails (IsFetchAnswer base here) Lacks (vector b.n A) here covered, λ none. (lack_first (IsFetchAnswer base here) Pruned here base (λ lack first. first), λ kept. lack_none Pruned here base kept))));
  }
    where
      A : List Record
      A = applied_at b link.centre x.place

      base : List ℕ
      base = (horizon_at b setup link.centre x.place).base

      covered : Covers (vector b.n (applied_at b link.centre x.place)) here
      covered = subst (λ v. Covers (vector b.n (applied_at b link.centre x.place)) v) (sym same) (has_linked link is (Fetch o here) say x).covered

  -- a fetch is answered with a state where the vector covers the centre's base, and else with the least centre of which it
  -- does not
  pub fetch : (i : ℕ) (o : ObjectId) (here : List ℕ) (say : Say) → Makes b setup (record { actor = a; place = m; centre = i; ask = Fetch o here; answer = say }) → IsFetched b setup (record { actor = a; place = m; centre = i; ask = Fetch o here; answer = say }) here
  fetch i o here say made =
      let same = fetch_asked (client_at b setup a m) o here made.gives.0 in
      let g : IsLinked (client_at b setup a m) i = made.gives.1 in
      let x = subst (λ i. HasEntry b setup i (record { caller = a; ask = Fetch o here; say = say }) (take m (notes_of b a))) (sym g.centre) (entry_of i (Fetch o here) say made) in
      subst (λ i. IsFetched b setup (record { actor = a; place = m; centre = i; ask = Fetch o here; answer = say }) here) g.centre (fetch_at g.link o here say g.linked same x)

  -- ---- a delta

  -- a delta of the session fits
  delta_fits_it : (o : ObjectId) (from here : List ℕ) → IsDeltaAsked (client_at b setup a m) o from here → fits b.n (Delta o from here) ≡ true
  delta_fits_it o from here asked = and_from (length from == b.n) ((length here == b.n) && covers here from)
      (eq-eqb (length from) b.n (ap length (sym asked.vector) ∙ (standing b setup fit a client m).wide asked.entry asked.there))
      (and_from (length here == b.n) (covers here from) (is_wide here asked.here_is) (covers_from here from asked.later))

  -- a delta to the session's vector, of the connected centre
  delta_at : (link : Connection) (o : ObjectId) (from here : List ℕ) (say : Say) → (client_at b setup a m).link ≡ Some link → IsDeltaAsked (client_at b setup a m) o from here → HasEntry b setup link.centre (record { caller = a; ask = Delta o from here; say = say }) (take m (notes_of b a)) → IsToldSince b setup (record { actor = a; place = m; centre = link.centre; ask = Delta o from here; answer = say }) from
  delta_at link o from here say is asked x = record {
    place = x.place;
    there = x.there;
    answer = subst (IsDeltaAnswer base from) (sym x.is) (answer_holds (IsDeltaAnswer base from) (centre_settings b setup link.centre) (take x.place (trail_of b link.centre)) (Delta o from here) (delta_fits_it o from here asked) tt
        (first_of_holds (IsDeltaAnswer base from) (lacking Lacks (vector b.n A) here ∷ lacking Pruned from base ∷ []) (told_of ops (state_at o A here))
        (lack_fails (IsDeltaAnswer base from) Lacks (vector b.n A) here covered, λ none. (lack_first (IsDeltaAnswer base from) Pruned from base (λ lack first. first), λ kept. told (lack_none Pruned from base kept) (nat_le (length ops) MOST_CHANGES)))));
  }
    where
      A : List Record
      A = applied_at b link.centre x.place

      ops : List (Mark × Op)
      ops = ops_since o A from here

      base : List ℕ
      base = (horizon_at b setup link.centre x.place).base

      covered : Covers (vector b.n (applied_at b link.centre x.place)) here
      covered = subst (λ v. Covers (vector b.n (applied_at b link.centre x.place)) v) (sym asked.here_is) (has_linked link is (Delta o from here) say x).covered

      told : Covers from (horizon_at b setup link.centre x.place).base → (few : Bool) → IsDeltaAnswer (horizon_at b setup link.centre x.place).base from (cond few (Changes (ops_since o (applied_at b link.centre x.place) from here)) (Object (state_at o (applied_at b link.centre x.place) here)))
      told kept true = kept
      told kept false = kept

  -- a delta is answered with what came since, or with a state, where the vector from which it goes covers the centre's base,
  -- and else with the least centre of which it does not
  pub delta : (i : ℕ) (o : ObjectId) (from here : List ℕ) (say : Say) → Makes b setup (record { actor = a; place = m; centre = i; ask = Delta o from here; answer = say }) → IsToldSince b setup (record { actor = a; place = m; centre = i; ask = Delta o from here; answer = say }) from
  delta i o from here say made =
      let asked = delta_asked (client_at b setup a m) o from here made.gives.0 in
      let g : IsLinked (client_at b setup a m) i = made.gives.1 in
      let x = subst (λ i. HasEntry b setup i (record { caller = a; ask = Delta o from here; say = say }) (take m (notes_of b a))) (sym g.centre) (entry_of i (Delta o from here) say made) in
      subst (λ i. IsToldSince b setup (record { actor = a; place = m; centre = i; ask = Delta o from here; answer = say }) from) g.centre (delta_at g.link o from here say g.linked asked x)

  -- so each answer of a running centre to it is taken
  pub delta_taken : (i : ℕ) (o : ObjectId) (from here : List ℕ) (say : Say) → Makes b setup (record { actor = a; place = m; centre = i; ask = Delta o from here; answer = say }) → (say ≡ Down → ⊥) → takes (client_at b setup a m) i (Delta o from here) say ≡ true
  delta_taken i o from here (Object state) made up =
      let s = client_at b setup a m in
      let asked = delta_asked s o from here made.gives.0 in
      let x = entry_of i (Delta o from here) (Object state) made in
      let by = whole_by (centre_settings b setup i) (take x.place (trail_of b i)) o from here state x.is in
      and_from (same_vector here s.vector) (holds s o from && same_sort (sort_of state) o.sort) (same_vector-itself here s.vector asked.here_is)
      (and_from (holds s o from) (same_sort (sort_of state) o.sort) (delta_held s o from here asked)
      (ap (λ k. same_sort k o.sort) (ap sort_of by.is ∙ sort_of_state o (applied_at b i x.place) here) ∙ same_sort-itself o.sort))
  delta_taken i o from here (Changes tail) made up =
      let s = client_at b setup a m in
      let asked = delta_asked s o from here made.gives.0 in
      let x = entry_of i (Delta o from here) (Changes tail) made in
      let by = changes_by (centre_settings b setup i) (take x.place (trail_of b i)) o from here tail x.is in
      and_from (same_vector here s.vector) (holds s o from && are_of_sort o.sort tail) (same_vector-itself here s.vector asked.here_is)
      (and_from (holds s o from) (are_of_sort o.sort tail) (delta_held s o from here asked)
      (ap (are_of_sort o.sort) by.is ∙ kinds_since (centre_settings b setup i) (applied_at b i x.place) o from here (each_at b setup fit i x.place x.low x.high)))
  delta_taken i o from here (Pruned centre base low) made up = delta_held (client_at b setup a m) o from here (delta_asked (client_at b setup a m) o from here made.gives.0)
  delta_taken i o from here Down made up = absurd (up refl)
  delta_taken i o from here say made up = absurd ((delta i o from here say made).answer)

  -- ---- a hello, and a state

  -- a hello is not answered with a misfit
  pub hello : (i c : ℕ) (need : List ℕ) (say : Say) → Makes b setup (record { actor = a; place = m; centre = i; ask = Hello c need; answer = say }) → say ≡ Misfit → ⊥
  hello i c need say made is =
      let same = same_hello c (client_at b setup a m).client need (client_at b setup a m).vector made.gives in
      let x = entry_of i (Hello c need) say made in
      no_misfit (centre_settings b setup i) (take x.place (trail_of b i)) (Hello c need) (and_from (is_within 1 MOST_CLIENTS c) (length need == b.n) (is_numbered c same.0) (is_wide need same.1)) (sym x.is ∙ is)

  -- a state that answers a fetch is taken
  pub object : (i : ℕ) (o : ObjectId) (here : List ℕ) (state : State) → Makes b setup (record { actor = a; place = m; centre = i; ask = Fetch o here; answer = Object state }) → takes (client_at b setup a m) i (Fetch o here) (Object state) ≡ true
  object i o here state made =
      let same = fetch_asked (client_at b setup a m) o here made.gives.0 in
      let x = entry_of i (Fetch o here) (Object state) made in
      let by = object_by (centre_settings b setup i) (take x.place (trail_of b i)) o here state x.is in
      let kind : sort_of state ≡ o.sort = ap sort_of by.is ∙ sort_of_state o (applied_at b i x.place) here in
      and_from (same_vector here (client_at b setup a m).vector) (same_sort (sort_of state) o.sort) (same_vector-itself here (client_at b setup a m).vector same)
      (ap (λ k. same_sort k o.sort) kind ∙ same_sort-itself o.sort)
