-- A snapshot that a session hears is taken where it has no more of the session's commits than it had made.
use Rattle.std.proofs.Common.{◌≡◌, ℕ, zero, suc, ◌-◌, ◌≤◌, true, ◌&&◌, List, length, take, refl, sym, ap, ◌∙◌, subst, arith}
use Rattle.std.specs.Prelude.{◌==◌, nat_le, is_none, filter}
use Rattle.std.proofs.lemmas.Bool.{and_parts, and_from, le-leb, leb-true, eq-eqb}
use Rattle.list_core.specs.Members.{In}
use Rattle.list_core.proofs.Members.{In_map, In_from_map, In_filter, In_from_filter}
use Rattle.list_core.proofs.Gets.{In_get}
use Rattle.vv_core.specs.Vectors.{at, join_of, kth_largest, covers, within, Covers}
use Rattle.vv_core.proofs.Covering.{covers_from, Covers-join_left}
use Rattle.vv_core.proofs.Entrywise.{length-join_of, length-meet_of, length-tabulate}
use Rattle.tx_core.specs.declared.tx.Record.{Record}
use Rattle.dc_talk.specs.declared.ask.Ask.TheVariants.{Refresh}
use Rattle.dc_talk.specs.declared.say.Say.TheVariants.{Snap}
use Rattle.dc_talk.specs.declared.log.Fate.TheVariants.{Heard}
use Rattle.dc_talk.specs.Records.{vector, count, inside, mine as mine_of}
use Rattle.dc_talk.specs.Trails.{applied, rows, stable}
use Rattle.dc_talk.specs.Clients.{Client}
use Rattle.dc_talk.specs.Rule.{takes, is_linked, can_follow, Gives, IsLinked, Allows}
use Rattle.dc_talk.proofs.ClientAnswers.{SnapBy, snap_by}
use Rattle.dc_talk.proofs.Counts.{top_bounded}
use Rattle.dc_talk.proofs.Dots.{in_mine}
use Rattle.run_book.specs.Setups.{Setup, centre_settings}
use Rattle.run_book.specs.declared.book.Book.{Book}
use Rattle.run_book.specs.Parts.{trail_of, notes_of, applied_at}
use Rattle.run_book.specs.Fit.{FitsWith}
use Rattle.run_book.specs.Graphs.{cover, client_at}
use Rattle.run_book.specs.Laws.{TakesSnapshots}
use Rattle.run_book.specs.Refusals.{Hears, Exchange, HearsRefresh}
use Rattle.run_book.proofs.Sessions.{can_follow-true}
use Rattle.run_book.proofs.Held.{dot_at, held_after}
use Rattle.run_book.proofs.Growth.{wide_after}
use Rattle.run_book.proofs.OwnAsks.{heard_gives}
use Rattle.run_book.proofs.Pairing.{HasEntry, has_entry}
use Rattle.run_book.proofs.Snapshots.{same_refresh}
use Rattle.run_book.proofs.Causal.Origins.{each_at}
use Rattle.run_book.proofs.Causal.OneList.{covered_inside}
use Rattle.run_book.proofs.Causal.SessionStates.{standing}
use Rattle.ids_core.specs.declared.limits.TheConstants.{MOST_NUMBER}

module _ (b : Book) (setup : Setup) (fit : FitsWith b setup) (a m i c : ℕ) (here w : List ℕ) (number rank : ℕ) (hears : Hears b setup (record { actor = a; place = m; centre = i; ask = Refresh c here; answer = Snap w number rank })) where
  -- the session before the note
  abbrev s : Client
  s = client_at b setup a m

  -- the entry of the refresh
  x : HasEntry b setup i (record { caller = a; ask = Refresh c here; say = Snap w number rank }) (take m (notes_of b a))
  x = has_entry b setup fit a m hears.note i (Refresh c here) (Heard (Snap w number rank)) (Snap w number rank) (omega (arith, hears.client.low)) (omega (arith, hears.client.high, fit.form.logs)) hears.there hears.deed_is refl

  -- the session made the ask
  gives : Gives (client_at b setup a m) i (Refresh c here)
  gives = heard_gives (client_at b setup a m) (take m (notes_of b a)) i (Refresh c here) (Snap w number rank) (subst (λ d. Allows (client_at b setup a m) (take m (notes_of b a)) d) hears.deed_is ((fit.follows a hears.client).holds m hears.note hears.there))

  -- for itself, at its vector
  same : (c ≡ (client_at b setup a m).client) × (here ≡ (client_at b setup a m).vector)
  same = same_refresh c (client_at b setup a m).client here (client_at b setup a m).vector gives.0

  -- what the centre had applied
  abbrev A : List Record
  A = applied_at b i x.place

  -- what the snapshot is
  snap : SnapBy (centre_settings b setup i) (take x.place (trail_of b i)) c here w number rank
  snap = snap_by (centre_settings b setup i) (take x.place (trail_of b i)) c here w number rank x.is

  -- it covers the session's vector
  more : Covers w (client_at b setup a m).vector
  more = subst (λ w. Covers w (client_at b setup a m).vector) (sym snap.vector_is) (subst (λ v. Covers (join_of here (stable (centre_settings b setup i) (take x.place (trail_of b i)))) v) same.1 (Covers-join_left here (stable (centre_settings b setup i) (take x.place (trail_of b i)))))

  -- the centre could serve the session's vector
  served : Covers (vector b.n A) (client_at b setup a m).vector
  served = subst (λ v. Covers (vector b.n A) v) same.1 snap.covered

  -- it has as many entries
  width : length w ≡ length (client_at b setup a m).vector
  width =
      let X = take x.place (trail_of b i) in
      let own_wide = wide_after b.n (a - 1) setup.capacity (take m (notes_of b a)) in
      omega (arith, ap length snap.vector_is, length-join_of here (stable (centre_settings b setup i) X), length-meet_of (kth_largest b.k (rows (centre_settings b setup i) X)) (vector b.n (applied b.n X)), length-tabulate b.n (λ e. count e (applied b.n X)), own_wide, ap length same.1 ∙ own_wide)

  -- its rank is in range
  ranked : rank ≤ MOST_NUMBER
  ranked = omega (arith, snap.top_is, top_bounded MOST_NUMBER A (λ r j. let g = In_get A r j in ((each_at b setup fit i x.place x.low x.high).holds g.0 r g.1).fit.rank.1))

  -- it has the session's commits that are within the session's vector
  has_mine : (k : ℕ) → k ≡ (client_at b setup a m).mine → k ≤ number
  has_mine zero is = omega arith
  has_mine (suc k) is =
      let v = (client_at b setup a m).vector in
      let d = dot_at (a - 1) (suc k) in
      let within_v : In d (cover b v) = (standing b setup fit a hears.client m).own_all (suc k) (omega arith) (omega (arith, is)) in
      let f = In_from_map (λ (r : Record). r.tx.dot) (filter (λ (r : Record). within r.stamp v) A) d (covered_inside b setup fit i x.place x.low x.high v d served within_v) in
      let g = In_from_filter (λ (r : Record). within r.stamp v) A f.0 f.1 in
      let within_w : within f.0.stamp w ≡ true = le-leb f.0.stamp.seq (at w f.0.stamp.centre) (omega (arith, leb-true f.0.stamp.seq (at v f.0.stamp.centre) g.1, more.holds f.0.stamp.centre)) in
      let new : In d (inside A w) = subst (λ d. In d (inside A w)) (sym f.2) (In_map (λ (r : Record). r.tx.dot) (filter (λ (r : Record). within r.stamp w) A) f.0 (In_filter (λ (r : Record). within r.stamp w) A f.0 g.0 within_w)) in
      let who : c ≡ a - 1 = same.0 ∙ (held_after b.n (a - 1) setup.capacity (notes_of b a) (fit.follows a hears.client) m).who in
      let mine : number ≡ mine_of (a - 1) (inside A w) = snap.mine_is ∙ ap (λ c. mine_of c (inside A w)) who in
      omega (arith, mine, in_mine (a - 1) (inside A w) (dot_at (a - 1) (suc k)) new refl)

  -- so it is taken where it has no more commits than the session had made
  taken_if_made : number ≤ (client_at b setup a m).own → takes (client_at b setup a m) i (Refresh c here) (Snap w number rank) ≡ true
  taken_if_made own =
      let g : IsLinked (client_at b setup a m) i = gives.1 in
      let p1 : is_none s.draft ≡ true = ap is_none gives.2 in
      let p2 : (length w == length s.vector) ≡ true = eq-eqb (length w) (length s.vector) width in
      let p3 : covers w s.vector ≡ true = covers_from w s.vector more in
      let p4 : nat_le rank MOST_NUMBER ≡ true = le-leb rank MOST_NUMBER ranked in
      let p5 : nat_le s.mine number ≡ true = le-leb s.mine number (has_mine s.mine refl) in
      let p6 : nat_le number s.own ≡ true = le-leb number s.own own in
      let can : can_follow s w number rank ≡ true = and_from _ (nat_le number s.own) (and_from _ (nat_le s.mine number) (and_from _ (nat_le rank MOST_NUMBER) (and_from _ (covers w s.vector) (and_from (is_none s.draft) (length w == length s.vector) p1 p2) p3) p4) p5) p6 in
      let linked : is_linked i s.link ≡ true = ap (is_linked i) g.linked ∙ eq-eqb g.link.centre i g.centre in
      and_from ((c == s.client) && is_linked i s.link) (can_follow s w number rank) (and_from (c == s.client) (is_linked i s.link) (eq-eqb c s.client same.0) linked) can

  -- and only there
  made_if_taken : takes (client_at b setup a m) i (Refresh c here) (Snap w number rank) ≡ true → number ≤ (client_at b setup a m).own
  made_if_taken is = (can_follow-true s w number rank (and_parts ((c == s.client) && is_linked i s.link) (can_follow s w number rank) is).1).made

-- a session takes the snapshots that it hears
pub takes_snapshots : (b : Book) (setup : Setup) → FitsWith b setup → TakesSnapshots b setup
takes_snapshots b setup fit = record {
  exact = λ x number h. (λ is. only x number h is, λ own. taken x number h own);
  timely = λ timely x number h. taken x number h (timely.no_more x number h);
}
  where
    -- what is heard, with the refresh and the snapshot written out
    heard : (x : Exchange) (number : ℕ) (h : HearsRefresh b setup x number) → Hears b setup (record { actor = x.actor; place = x.place; centre = x.centre; ask = Refresh h.client h.here; answer = Snap h.snap number h.top })
    heard x number h =
        subst (λ ask. Hears b setup (record { actor = x.actor; place = x.place; centre = x.centre; ask = ask; answer = Snap h.snap number h.top })) h.refresh
        (subst (λ answer. Hears b setup (record { actor = x.actor; place = x.place; centre = x.centre; ask = x.ask; answer = answer })) h.snapshot h.heard)

    -- the test is that of the refresh and the snapshot
    tested : (x : Exchange) (number : ℕ) (h : HearsRefresh b setup x number) → takes (client_at b setup x.actor x.place) x.centre x.ask x.answer ≡ takes (client_at b setup x.actor x.place) x.centre (Refresh h.client h.here) (Snap h.snap number h.top)
    tested x number h = ap (λ ask. takes (client_at b setup x.actor x.place) x.centre ask x.answer) h.refresh ∙ ap (takes (client_at b setup x.actor x.place) x.centre (Refresh h.client h.here)) h.snapshot

    taken : (x : Exchange) (number : ℕ) → HearsRefresh b setup x number → number ≤ (client_at b setup x.actor x.place).own → takes (client_at b setup x.actor x.place) x.centre x.ask x.answer ≡ true
    taken x number h own = tested x number h ∙ taken_if_made b setup fit x.actor x.place x.centre h.client h.here h.snap number h.top (heard x number h) own

    only : (x : Exchange) (number : ℕ) → HearsRefresh b setup x number → takes (client_at b setup x.actor x.place) x.centre x.ask x.answer ≡ true → number ≤ (client_at b setup x.actor x.place).own
    only x number h is = made_if_taken b setup fit x.actor x.place x.centre h.client h.here h.snap number h.top (heard x number h) (sym (tested x number h) ∙ is)
