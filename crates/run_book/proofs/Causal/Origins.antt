-- Each record that a centre has applied stands in the own list of its origin.
use Rattle.std.proofs.Common.{◌≡◌, ℕ, zero, suc, ◌+◌, ◌-◌, ◌≤◌, ◌<◌, ◌⊎◌, inl, inr, ⊎_elim, take, Some, sym, ap, ◌∙◌, subst, arith}
use Rattle.std.specs.Prelude.{slice_get}
use Rattle.std.proofs.lemmas.Option.{same_Some}
use Rattle.list_core.specs.Members.{In}
use Rattle.list_core.specs.Moments.{Each}
use Rattle.list_core.proofs.Members.{In_map, In_from_map}
use Rattle.list_core.proofs.Gets.{In_get}
use Rattle.list_core.proofs.Moments.{by_prefixes}
use Rattle.vv_core.specs.declared.stamp.Stamp.{Stamp}
use Rattle.tx_core.specs.declared.tx.Record.{Record}
use Rattle.dc_talk.specs.Records.{count}
use Rattle.dc_talk.specs.declared.sent.Sent.{Sent}
use Rattle.dc_talk.specs.Sents.{with_hops}
use Rattle.dc_talk.specs.Trails.{carried, applied}
use Rattle.dc_talk.specs.Laws.{IsCentreHistory, IsInOrder}
use Rattle.dc_talk.proofs.PeerAnswers.{handed_by}
use Rattle.dc_talk.proofs.Applied.{Came, WasStamped, WasDelivered, came_by, in_order_at, in_order}
use Rattle.dc_talk.proofs.Places.{have_stamp, own_there}
use Rattle.dc_talk.proofs.Growth.{carried_later}
use Rattle.run_book.specs.Setups.{Setup, centre_settings}
use Rattle.run_book.specs.declared.book.Book.{Book}
use Rattle.run_book.specs.Parts.{trail_of, applied_at, applied_by_end}
use Rattle.run_book.specs.Fit.{FitsWith, IsHandedOn}
use Rattle.run_book.specs.Graphs.{own_list}

module _ (b : Book) (setup : Setup) (fit : FitsWith b setup) where
  -- each trail of the book is a history of its centre
  history_of : (i : ℕ) → 1 ≤ i → i ≤ b.n → IsCentreHistory (centre_settings b setup i) (trail_of b i)
  history_of i low high = record { centre = (low, high); few = fit.limit_range.1; history = fit.histories i low high }

  -- so what a centre has applied is in order, at each moment
  pub each_at : (i p : ℕ) → 1 ≤ i → i ≤ b.n → Each (IsInOrder (centre_settings b setup i)) (applied_at b i p)
  each_at i p low high = in_order_at (centre_settings b setup i) (trail_of b i) (history_of i low high) p

  -- and in the end
  pub whole_each : (i : ℕ) → 1 ≤ i → i ≤ b.n → Each (IsInOrder (centre_settings b setup i)) (applied_by_end b i)
  whole_each i low high = in_order (centre_settings b setup i) (trail_of b i) (history_of i low high)

  -- ---- with hops

  -- centre i has applied the record with these hops, in the end
  pub record Has (i : ℕ) (item : Record) (hops : ℕ) : Type 0 where
    pub range : (1 ≤ i) × (i ≤ b.n)
    pub there : In (with_hops item hops) (carried b.n (trail_of b i))

  -- how a record came that is there in the end
  came_whole : (i : ℕ) (x : Sent) → 1 ≤ i → i ≤ b.n → In x (carried b.n (trail_of b i)) → Came i (trail_of b i) x
  came_whole i x low high = by_prefixes (λ X. In x (carried b.n X) → Came i (trail_of b i) x) (trail_of b i) (λ p. came_by (centre_settings b setup i) (trail_of b i) (fit.histories i low high) p x)

  -- a centre that hands a record on has it, with the hops that it hands it on with
  pub has_handed : (item : Record) (hops : ℕ) → (on : IsHandedOn b item hops) → Has on.centre item hops
  has_handed item hops on =
      let j : ℕ = on.centre in
      let said = sym on.says ∙ (fit.histories j on.range.0 on.range.1).holds on.place on.entry on.there in
      record { range = on.range; there = carried_later b.n (trail_of b j) on.place (with_hops item hops) (handed_by (centre_settings b setup j) (take on.place (trail_of b j)) on.entry.ask on.list (with_hops item hops) said on.has) }

  -- a record with hops came from a centre that has it with one less
  pub came_from : (i : ℕ) (item : Record) (hops : ℕ) → Has i item (suc hops) → (j : ℕ) × Has j item hops
  came_from i item hops h = ⊎_elim
      (λ stamped. absurd (let none : suc hops ≡ 0 = stamped.0 in omega (arith, none)))
      (λ brought. step brought.0 brought.1 brought.2)
      (came_whole i (with_hops item (suc hops)) h.range.0 h.range.1 h.there)
    where
      step : (fewer : ℕ) → suc hops ≡ fewer + 1 → WasDelivered i (trail_of b i) item fewer → (j : ℕ) × Has j item hops
      step fewer one was =
          let on : IsHandedOn b item fewer = fit.delivered i was.place was.entry item fewer was.there was.asks in
          let same : fewer ≡ hops = omega (arith, one) in
          (on.centre, subst (λ k. Has on.centre item k) same (has_handed item fewer on))

  -- a record without hops was stamped here
  own_of : (i : ℕ) (item : Record) → Has i item 0 → item.stamp.centre ≡ i
  own_of i item h = ⊎_elim
      (λ stamped. stamped.1.own)
      (λ brought. absurd (let one : 0 ≡ brought.0 + 1 = brought.1 in omega (arith, one)))
      (came_whole i (with_hops item 0) h.range.0 h.range.1 h.there)

  -- a record that its origin has applied stands in its own list
  own_here : (e : ℕ) (r : Record) → 1 ≤ e → e ≤ b.n → r.stamp.centre ≡ e → In r (applied_by_end b e) → slice_get (own_list b r.stamp.centre) (r.stamp.seq - 1) ≡ Some r
  own_here e r low high own here =
      let each = whole_each e low high in
      let g = In_get (applied_by_end b e) r here in
      let number = (each.holds g.0 r g.1).number in
      subst (λ o. slice_get (own_list b o) (r.stamp.seq - 1) ≡ Some r) (sym own) (own_there (centre_settings b setup e) (applied_by_end b e) each r.stamp.seq r (omega (arith, number)) here (λ i. record { centre = own i; seq = r.stamp.seq }))

  -- each record that a centre has stands in the own list of its origin: by induction on hops
  there_by : (hops i : ℕ) (item : Record) → Has i item hops → slice_get (own_list b item.stamp.centre) (item.stamp.seq - 1) ≡ Some item
  there_by zero i item h = own_here i item h.range.0 h.range.1 (own_of i item h) (In_map (λ (x : Sent). x.item) (carried b.n (trail_of b i)) (with_hops item 0) h.there)
  there_by (suc hops) i item h = let c = came_from i item hops h in there_by hops c.0 item c.1

  -- so does one that is handed on, and its origin is one of the centres
  pub handed_there : (item : Record) (hops : ℕ) → IsHandedOn b item hops → slice_get (own_list b item.stamp.centre) (item.stamp.seq - 1) ≡ Some item
  handed_there item hops on = there_by hops on.centre item (has_handed item hops on)

  pub handed_range : (item : Record) (hops : ℕ) → IsHandedOn b item hops → (1 ≤ item.stamp.centre) × (item.stamp.centre ≤ b.n)
  handed_range item hops on =
      let A = applied_by_end b on.centre in
      let here : In item A = In_map (λ (x : Sent). x.item) (carried b.n (trail_of b on.centre)) (with_hops item hops) (has_handed item hops on).there in
      let g = In_get A item here in
      ((whole_each on.centre on.range.0 on.range.1).holds g.0 item g.1).centre

  -- ---- without hops

  -- each record that a centre has applied stands in the own list of its origin
  pub agreement : (i p : ℕ) → 1 ≤ i → i ≤ b.n → (r : Record) → In r (applied_at b i p) → slice_get (own_list b r.stamp.centre) (r.stamp.seq - 1) ≡ Some r
  agreement i p low high r here =
      let m = In_from_map (λ (x : Sent). x.item) (carried b.n (take p (trail_of b i))) r here in
      let at : Has i m.0.item m.0.hops = record { range = (low, high); there = carried_later b.n (trail_of b i) p m.0 m.1 } in
      subst (λ (r : Record). slice_get (own_list b r.stamp.centre) (r.stamp.seq - 1) ≡ Some r) (sym m.2) (there_by m.0.hops i m.0.item at)

  -- it was stamped by the centre or delivered to it
  pub came_at : (i p : ℕ) → 1 ≤ i → i ≤ b.n → (r : Record) → In r (applied_at b i p) → WasStamped i (trail_of b i) r ⊎ ((hops : ℕ) × WasDelivered i (trail_of b i) r hops)
  came_at i p low high r here =
      let m = In_from_map (λ (x : Sent). x.item) (carried b.n (take p (trail_of b i))) r here in
      subst (λ (r : Record). WasStamped i (trail_of b i) r ⊎ ((hops : ℕ) × WasDelivered i (trail_of b i) r hops)) (sym m.2)
      (⊎_elim (λ stamped. inl stamped.1) (λ brought. inr (brought.0, brought.2)) (came_by (centre_settings b setup i) (trail_of b i) (fit.histories i low high) p m.0 m.1))

  -- the same of what a centre has in the end
  pub agreement_whole : (i : ℕ) → 1 ≤ i → i ≤ b.n → (r : Record) → In r (applied_by_end b i) → slice_get (own_list b r.stamp.centre) (r.stamp.seq - 1) ≡ Some r
  agreement_whole i low high r = by_prefixes (λ X. In r (applied b.n X) → slice_get (own_list b r.stamp.centre) (r.stamp.seq - 1) ≡ Some r) (trail_of b i) (λ p. agreement i p low high r)

  -- the record at place k of centre e's own list, which centre i has applied by the first p entries of its trail
  pub record IsThere (i p e k : ℕ) : Type 0 where
    pub item : Record
    pub there : In item (applied_at b i p)
    pub is : item.stamp ≡ record { centre = e; seq = suc k }
    pub own : slice_get (own_list b e) k ≡ Some item

  -- as many records of centre e's own list are there as centre i counts
  pub counted_there : (i p e k : ℕ) → 1 ≤ i → i ≤ b.n → k < count e (applied_at b i p) → IsThere i p e k
  counted_there i p e k low high lt =
      let h = have_stamp (centre_settings b setup i) (applied_at b i p) (each_at i p low high) e (suc k) (omega arith) (omega (arith, lt)) in
      let one_less : suc k - 1 ≡ k = omega arith in
      let own = subst (λ (s : Stamp). slice_get (own_list b s.centre) (s.seq - 1) ≡ Some h.item) h.stamp_is (agreement i p low high h.item h.there) in
      record { item = h.item; there = h.there; is = h.stamp_is; own = subst (λ n. slice_get (own_list b e) n ≡ Some h.item) one_less own }

  -- so a record of the own list within the count is there
  pub applied_there : (i p e k : ℕ) (r : Record) → 1 ≤ i → i ≤ b.n → k < count e (applied_at b i p) → slice_get (own_list b e) k ≡ Some r → In r (applied_at b i p) × (r.stamp ≡ record { centre = e; seq = suc k })
  applied_there i p e k r low high lt there =
      let h = counted_there i p e k low high lt in
      let same : h.item ≡ r = same_Some h.item r (sym h.own ∙ there) in
      (subst (λ r. In r (applied_at b i p)) same h.there, ap (λ (r : Record). r.stamp) (sym same) ∙ h.is)
