-- What is delivered or learned in a book that fits is fit, and no delivery comes before the one of its
-- client's transaction before.
use Rattle.std.proofs.Common.{◌≡◌, ℕ, ◌+◌, ◌-◌, ◌≤◌, true, ◌&&◌, ⊎_elim, List, length, take, Some, refl, sym, ap, ◌∙◌, subst, arith}
use Rattle.std.specs.Prelude.{slice_get, ◌==◌, nat_le}
use Rattle.std.proofs.lemmas.Bool.{cases_lt, and_from, le-leb, eq-eqb}
use Rattle.list_core.specs.Members.{In}
use Rattle.list_core.proofs.Members.{In_take}
use Rattle.list_core.proofs.Gets.{In_get}
use Rattle.ids_core.specs.declared.ids.Dot.{Dot}
use Rattle.vv_core.specs.declared.stamp.Stamp.{Stamp}
use Rattle.vv_core.specs.Vectors.{at, Covers}
use Rattle.vv_core.proofs.Entrywise.{at-tabulate_le, length-tabulate}
use Rattle.tx_core.specs.declared.tx.Record.{Record}
use Rattle.tx_core.specs.Checks.{is_within}
use Rattle.dc_talk.specs.declared.ask.TheConstants.{MOST_HOPS}
use Rattle.dc_talk.specs.declared.ask.Ask.TheVariants.{Deliver, Learn}
use Rattle.dc_talk.specs.declared.say.Say.TheVariants.{Misfit, Orphan}
use Rattle.dc_talk.specs.Entries.{Entry}
use Rattle.dc_talk.specs.Records.{vector, count, guard, first_stamp}
use Rattle.dc_talk.specs.Trails.{applied}
use Rattle.dc_talk.specs.Answers.{answer, fits, are_modest, is_fit_item}
use Rattle.dc_talk.specs.Laws.{IsInOrder}
use Rattle.dc_talk.proofs.Answers.{no_misfit}
use Rattle.dc_talk.proofs.PeerAnswers.{modest_from, fits_item, vector_by, delivery_by, orphan_by}
use Rattle.dc_talk.proofs.Counts.{count_take, in_guard}
use Rattle.dc_talk.proofs.Firsts.{first_stamp_is}
use Rattle.dc_talk.proofs.Places.{count_few, own_at}
use Rattle.run_book.specs.Setups.{Setup, centre_settings}
use Rattle.run_book.specs.declared.book.Book.{Book}
use Rattle.run_book.specs.Parts.{trail_of, applied_at, applied_by_end}
use Rattle.run_book.specs.Fit.{FitsWith, IsHandedOn, IsReported}
use Rattle.run_book.specs.Refusals.{IsEntry}
use Rattle.run_book.proofs.Held.{dot_at}
use Rattle.run_book.proofs.Causal.Origins.{each_at, whole_each, handed_there, handed_range, agreement_whole, applied_there}
use Rattle.run_book.proofs.Causal.Hops.{handed_few}

module _ (b : Book) (setup : Setup) (fit : FitsWith b setup) where
  -- ---- what is delivered

  -- where a record that was sent stands in what its origin has applied, in order
  record IsPlaced (item : Record) : Type 0 where
    place : ℕ
    there : slice_get (applied_by_end b item.stamp.centre) place ≡ Some item
    order : IsInOrder (centre_settings b setup item.stamp.centre) (take place (applied_by_end b item.stamp.centre)) item

  -- each record that was sent stands there
  placed : (item : Record) (hops : ℕ) → IsHandedOn b item hops → IsPlaced item
  placed item hops sent =
      let A = applied_by_end b item.stamp.centre in
      let origin = handed_range b setup fit item hops sent in
      let each = whole_each b setup fit item.stamp.centre origin.0 origin.1 in
      let own = own_at (centre_settings b setup item.stamp.centre) item.stamp.centre A each (item.stamp.seq - 1) item (handed_there b setup fit item hops sent) in
      let g = In_get A item own.0 in
      record { place = g.0; there = g.1; order = each.holds g.0 item g.1 }

  -- what is delivered fits
  pub sent_fits : (item : Record) (hops : ℕ) → IsHandedOn b item hops → is_fit_item b.n item ≡ true
  sent_fits item hops sent =
      let p = placed item hops sent in
      let home = handed_range b setup fit item hops sent in
      let A = applied_by_end b item.stamp.centre in
      let few = count_few (centre_settings b setup item.stamp.centre) A (whole_each b setup fit item.stamp.centre home.0 home.1) in
      fits_item b.n item
      (record { centre = p.order.centre; seq = (omega (arith, p.order.number), p.order.few); width = p.order.width; fit = p.order.fit })
      (modest_from item.deps (λ e. omega (arith, p.order.waited e, count_take e p.place A, few e)))

  -- a centre that has what a record depends on has its client's transactions before it
  pub sent_next : (i p : ℕ) → 1 ≤ i → i ≤ b.n → (item : Record) (hops : ℕ) → IsHandedOn b item hops → Covers (vector b.n (applied_at b i p)) item.deps → item.tx.dot.number ≤ guard item.tx.dot.client (applied_at b i p) + 1
  sent_next i p low high item hops sent le = ⊎_elim (λ few. omega (arith, few)) (λ many. first (origin.order.made refl).before many) (cases_lt item.tx.dot.number 2)
    where
      origin : IsPlaced item
      origin = placed item hops sent

      home : (1 ≤ item.stamp.centre) × (item.stamp.centre ≤ b.n)
      home = handed_range b setup fit item hops sent

      A : List Record
      A = applied_at b i p

      B : List Record
      B = applied_by_end b item.stamp.centre

      previous : Dot
      previous = dot_at item.tx.dot.client (item.tx.dot.number - 1)

      first : (2 ≤ item.tx.dot.number → (s : Stamp) × (first_stamp (dot_at item.tx.dot.client (item.tx.dot.number - 1)) (take origin.place B) ≡ Some s) × (s.seq ≤ at item.deps s.centre)) → 2 ≤ item.tx.dot.number → item.tx.dot.number ≤ guard item.tx.dot.client (applied_at b i p) + 1
      first before many = go (before many)
        where
          there : (r : Record) → In r B → r.tx.dot ≡ dot_at item.tx.dot.client (item.tx.dot.number - 1) → r.stamp.seq ≤ at item.deps r.stamp.centre → item.tx.dot.number ≤ guard item.tx.dot.client (applied_at b i p) + 1
          there r here dot needed =
              let g = In_get B r here in
              let number = ((whole_each b setup fit item.stamp.centre home.0 home.1).holds g.0 r g.1).number in
              let own = agreement_whole b setup fit item.stamp.centre home.0 home.1 r here in
              let counted = at-tabulate_le b.n r.stamp.centre (λ e. count e A) in
              let ours = applied_there b setup fit i p r.stamp.centre (r.stamp.seq - 1) r low high (omega (arith, number, needed, le.holds r.stamp.centre, counted)) own in
              omega (arith, many, in_guard A r ours.0, ap (λ (d : Dot). guard d.client A) dot, ap (λ (d : Dot). d.number) dot)

          go : (s : Stamp) × (first_stamp (dot_at item.tx.dot.client (item.tx.dot.number - 1)) (take origin.place B) ≡ Some s) × (s.seq ≤ at item.deps s.centre) → item.tx.dot.number ≤ guard item.tx.dot.client (applied_at b i p) + 1
          go (s, is, needed) =
              let f = first_stamp_is previous (take origin.place B) s is in
              there f.0 (In_take origin.place B f.0 f.1) f.3 (subst (λ (s : Stamp). s.seq ≤ at item.deps s.centre) (sym f.2) needed)

  -- ---- what is learned

  -- a reported vector has a small entry for each centre
  reported_fits : (from : ℕ) (news : List ℕ) → IsReported b from news → fits b.n (Learn from news) ≡ true
  reported_fits from news r =
      let X = take r.place (trail_of b from) in
      let A = applied b.n X in
      let few = count_few (centre_settings b setup from) A (each_at b setup fit from r.place r.origin.0 r.origin.1) in
      let same : news ≡ vector b.n A = vector_by (centre_settings b setup from) X r.entry.ask news (sym r.says ∙ (fit.histories from r.origin.0 r.origin.1).holds r.place r.entry r.there) in
      let centre : is_within 1 b.n from ≡ true = and_from (nat_le 1 from) (nat_le from b.n) (le-leb 1 from r.origin.0) (le-leb from b.n r.origin.1) in
      let wide : (length news == b.n) ≡ true = eq-eqb (length news) b.n (ap length same ∙ length-tabulate b.n (λ e. count e A)) in
      let small : are_modest news ≡ true = subst (λ v. are_modest v ≡ true) (sym same) (modest_from (vector b.n A) (λ e. omega (arith, at-tabulate_le b.n e (λ e. count e A), few e))) in
      and_from (is_within 1 b.n from && (length news == b.n)) (are_modest news) (and_from (is_within 1 b.n from) (length news == b.n) centre wide) small

  -- ---- the answers

  module _ (i : ℕ) (entry : Entry) (stands : IsEntry b i entry) where
    -- the entry is answered as the history says
    said : entry.say ≡ answer (centre_settings b setup i) (take stands.place (trail_of b i)) entry.ask
    said = (fit.histories i stands.centre.0 stands.centre.1).holds stands.place entry stands.there

    -- what is delivered was sent
    item_sent : (item : Record) (hops : ℕ) → entry.ask ≡ Deliver item hops → IsHandedOn b item hops
    item_sent item hops asks = fit.delivered i stands.place entry item hops stands.there asks

    -- no answer is an orphan
    pub no_orphan : (number have : ℕ) → entry.say ≡ Orphan number have → ⊥
    no_orphan number have says =
        let X = take stands.place (trail_of b i) in
        let is : Orphan number have ≡ answer (centre_settings b setup i) X entry.ask = sym says ∙ said in
        let asks = delivery_by (centre_settings b setup i) X entry.ask number have is in
        let by = orphan_by (centre_settings b setup i) X asks.item asks.hops number have (subst (λ ask. Orphan number have ≡ answer (centre_settings b setup i) X ask) asks.is is) in
        omega (arith, by.far, sent_next i stands.place stands.centre.0 stands.centre.1 asks.item asks.hops (item_sent asks.item asks.hops asks.is) by.covered)

    -- no delivery is a misfit
    pub no_misfit_delivery : (item : Record) (hops : ℕ) → entry.ask ≡ Deliver item hops → entry.say ≡ Misfit → ⊥
    no_misfit_delivery item hops asks says =
        let X = take stands.place (trail_of b i) in
        no_misfit (centre_settings b setup i) X (Deliver item hops) (and_from (is_fit_item b.n item) (nat_le hops MOST_HOPS) (sent_fits item hops (item_sent item hops asks)) (handed_few b setup fit item hops (item_sent item hops asks))) (ap (answer (centre_settings b setup i) X) (sym asks) ∙ (sym said ∙ says))

    -- no lesson is a misfit
    pub no_misfit_lesson : (from : ℕ) (news : List ℕ) → entry.ask ≡ Learn from news → entry.say ≡ Misfit → ⊥
    no_misfit_lesson from news asks says =
        let X = take stands.place (trail_of b i) in
        no_misfit (centre_settings b setup i) X (Learn from news) (reported_fits from news (fit.learned i stands.place entry from news stands.there asks)) (ap (answer (centre_settings b setup i) X) (sym asks) ∙ (sym said ∙ says))
