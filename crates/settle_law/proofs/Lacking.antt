-- Behind a pass without news no running centre lacks what another running one has.
use Rattle.std.proofs.Common.{◌≡◌, ◌≢◌, ℕ, ◌+◌, ◌-◌, ◌≤◌, ◌<◌, true, false, cond, ◌⊎◌, inl, inr, ⊎_elim, List, [], ◌∷◌, ◌++◌, length, take, Option, Some, None, refl, sym, ap, ◌∙◌, subst, arith}
use Rattle.std.specs.Prelude.{◌==◌, nat_le, slice_get}
use Rattle.std.specs.List.{list_any}
use Rattle.std.proofs.lemmas.Bool.{cases_Bool, cases_lt, cases_eq, eqb-true, false≢true, le-leb, and_from}
use Rattle.std.proofs.lemmas.Option.{slice_get_within}
use Rattle.list_core.specs.Members.{In}
use Rattle.list_core.proofs.Gets.{get_In, get_seam}
use Rattle.list_core.proofs.Moments.{by_prefixes, by_steps}
use Rattle.vv_core.specs.Vectors.{at, Covers}
use Rattle.vv_core.proofs.Covering.{Covers-tabulate}
use Rattle.vv_core.proofs.Entrywise.{at-tabulate}
use Rattle.tx_core.specs.declared.tx.Record.{Record}
use Rattle.tx_core.specs.Checks.{is_within}
use Rattle.dc_talk.specs.declared.ask.TheConstants.{MOST_SENT}
use Rattle.dc_talk.specs.declared.ask.Ask.{Ask}
use Rattle.dc_talk.specs.declared.ask.Ask.TheVariants.{Deliver, Report}
use Rattle.dc_talk.specs.declared.say.Say.{Say}
use Rattle.dc_talk.specs.declared.say.Say.TheVariants.{Records, Vector, Applied}
use Rattle.dc_talk.specs.declared.sent.Sent.{Sent}
use Rattle.dc_talk.specs.declared.log.Deed.{Deed}
use Rattle.dc_talk.specs.declared.line.ShipEnd.{ShipEnd}
use Rattle.dc_talk.specs.Entries.{Entry}
use Rattle.dc_talk.specs.Logs.{entry_for, entries_made}
use Rattle.dc_talk.specs.Records.{count, vector, guard}
use Rattle.dc_talk.specs.Sents.{with_hops}
use Rattle.dc_talk.specs.Trails.{carried, applied, stopped, horizon}
use Rattle.dc_talk.specs.Answers.{fits, part_of, send_answer, row, answer, History}
use Rattle.dc_talk.specs.Laws.{IsInOrder}
use Rattle.dc_talk.proofs.Counts.{count_more, own_length}
use Rattle.script_core.specs.Carrying.{route, detour, Delivers, AfterSend, AfterReport, Supplies, Sends, own_need, origin_need, Passes, is_news}
use Rattle.dc_worker.specs.Settled.{Centres, AreNumbered, behind_deeds, IsAlike}
use Rattle.dc_worker.proofs.Alike.{IsCarried, alike_answer}
use Rattle.dc_worker.proofs.Repeating.{Runs, EndsWell, asked, next_entry, answer_first, goes_on, or_false, run_begins, passed_alike}
use Rattle.run_book.specs.declared.book.Book.{Book}
use Rattle.run_book.specs.Setups.{Setup, centre_settings}
use Rattle.run_book.specs.Parts.{trail_of, applied_by_end}
use Rattle.run_book.specs.Graphs.{own_list}
use Rattle.run_book.specs.Fit.{FitsWith, IsHandedOn}
use Rattle.run_book.proofs.Causal.Origins.{whole_each, agreement_whole}
use Rattle.run_book.proofs.Causal.Deliveries.{sent_fits, sent_next}
use Rattle.run_book.proofs.Causal.Hops.{handed_few}
use Rattle.settle_law.proofs.Answers.{running_row, given, IsFirst, first_behind, applies}
use Rattle.settle_law.proofs.Reached.{ship_reached, relay_reached, route_in, detour_in}

-- it is one of the centres of the book
abbrev pub IsCentre : Book → ℕ → Type 0
IsCentre b i = (1 ≤ i) × (i ≤ b.n)

-- what a centre of the book let go of an origin's records, each centre has
abbrev pub KeepsLacked : Book → Setup → Type 0
KeepsLacked b setup = (i origin j : ℕ) → IsCentre b i → IsCentre b j → at (horizon (centre_settings b setup i) (trail_of b i)).trimmed origin ≤ at (vector b.n (applied_by_end b j)) origin

-- the trails of the book are those at first with what an actor did behind them
abbrev pub EndsWith : Book → (ℕ → List Entry) → ℕ → List Deed → Type 0
EndsWith b first actor deeds = (i : ℕ) → IsCentre b i → trail_of b i ≡ first i ++ entries_made actor i deeds

module _ (b : Book) (setup : Setup) (fit : FitsWith b setup) (keeps : KeepsLacked b setup) (first : ℕ → List Entry) (actor : ℕ) (deeds : List Deed) (ends : EndsWith b first actor deeds) (pass : Passes b.n deeds) (quiet : list_any is_news deeds ≡ false) where
  -- ---- the run

  -- what a centre has applied
  abbrev A : ℕ → List Record
  A i = applied_by_end b i

  -- the centres at first
  abbrev c : Centres
  c = record { n = b.n; settings = centre_settings b setup; trails = first }

  -- and those in the end
  abbrev last : Centres
  last = behind_deeds c actor deeds

  -- their settings are of their numbers
  numbered : AreNumbered c
  numbered = record { n = λ i. refl; me = λ i. refl }

  -- the last trails are their histories
  well : EndsWell c last
  well = record { numbered = numbered; histories = λ i low high. subst (History (centre_settings b setup i)) (ends i (low, high)) (fit.histories i low high) }

  -- each centre is as at first
  alike : (i : ℕ) → IsCentre b i → IsAlike (centre_settings b setup i) (trail_of b i) (first i)
  alike i is = subst (λ trail. IsAlike (centre_settings b setup i) trail (first i)) (sym (ends i is)) (passed_alike c actor deeds numbered (record { passes = pass; histories = well.histories }) quiet i)

  -- so the next answer of the run is the one in the end
  said : (i : ℕ) (ask : Ask) (say : Say) (rest : List Deed) → IsCentre b i → IsCarried i ask → Runs c last actor (asked i ask say ∷ rest) → say ≡ answer (centre_settings b setup i) (trail_of b i) ask
  said i ask say rest is carried run =
      answer_first c last actor i ask say rest well (record { low = is.0; high = is.1; carried = carried }) run
      ∙ sym (alike_answer (centre_settings b setup i) (trail_of b i) (first i) ask (alike i is) carried)

  -- ---- a supply

  -- centre j was delivered the record, which was sent, and did not apply it
  record WasLeft (j : ℕ) (item : Sent) : Type 0 where
    say : Say
    said : say ≡ answer (centre_settings b setup j) (trail_of b j) (Deliver item.item item.hops)
    nothing : is_news (asked j (Deliver item.item item.hops) say) ≡ false
    sent : IsHandedOn b item.item item.hops

  -- so is the first of records that are delivered
  first_left : (j : ℕ) (item : Sent) (more : List Sent) (last_one end : Option ShipEnd) (ds left : List Deed) → IsCentre b j → list_any is_news ds ≡ false → Delivers j (item ∷ more) last_one ds end → Runs c last actor (ds ++ left) → WasLeft j item
  first_left j item more last_one end [] left is none does run = absurd does
  first_left j item more last_one end (d ∷ ds) left is none does run = record {
    say = does.0;
    said = said j (Deliver item.item item.hops) does.0 (ds ++ left) is tt begun;
    nothing = ap is_news (sym does.1) ∙ (or_false (is_news d) (list_any is_news ds) none).0;
    sent = fit.delivered j (length (begun.now j)) entry item.item item.hops there refl;
  }
    where
      begun : Runs c last actor (asked j (Deliver item.item item.hops) does.0 ∷ (ds ++ left))
      begun = subst (λ deed. Runs c last actor (deed ∷ (ds ++ left))) does.1 run

      entry : Entry
      entry = entry_for actor (Deliver item.item item.hops, does.0)

      there : slice_get (trail_of b j) (length (begun.now j)) ≡ Some entry
      there = ap (λ es. slice_get es (length (begun.now j))) (ends j is ∙ next_entry c last actor j (Deliver item.item item.hops) does.0 (ds ++ left) begun) ∙ get_seam (begun.now j) entry (entries_made actor j (ds ++ left))

  -- an ask is answered as in the end, and what follows it goes on
  went_on : (i : ℕ) (ask : Ask) (say : Say) (ds later left : List Deed) → IsCentre b i → IsCarried i ask → list_any is_news ds ≡ false → ds ≡ asked i ask say ∷ later → Runs c last actor (ds ++ left) → (say ≡ answer (centre_settings b setup i) (trail_of b i) ask) × (list_any is_news later ≡ false) × Runs c last actor (later ++ left)
  went_on i ask say ds later left is carried none whole run =
      let news = or_false (is_news (asked i ask say)) (list_any is_news later) (ap (list_any is_news) (sym whole) ∙ none) in
      let begun : Runs c last actor (asked i ask say ∷ (later ++ left)) = subst (λ all. Runs c last actor (all ++ left)) whole run in
      (said i ask say (later ++ left) is carried begun, news.1, goes_on c last actor i ask say (later ++ left) well (record { low = is.0; high = is.1; carried = carried }) news.0 begun)

  -- the first record of a supply was delivered, and not applied
  supplied : (i j : ℕ) (need : List ℕ → Ask) (end : Option ShipEnd) (ds left : List Deed) (v : List ℕ) (item : Sent) (more : List Sent) → IsCentre b i → IsCentre b j → ((v : List ℕ) → IsCarried i (need v)) → list_any is_news ds ≡ false → Supplies (route i j) need ds end → Runs c last actor (ds ++ left) → answer (centre_settings b setup j) (trail_of b j) Report ≡ Vector v → answer (centre_settings b setup i) (trail_of b i) (need v) ≡ Records (item ∷ more) → WasLeft j item
  supplied i j need end ds left v item more from to carried none does run reports sends =
      let one = went_on j Report does.say ds does.later left to tt none does.whole run in
      let asks : Sends (route i j) None (need v) does.later end = subst (λ say. AfterReport (route i j) need say does.later end) (one.0 ∙ reports) does.follows in
      let two = went_on i (need v) asks.say does.later asks.later left from (carried v) one.1 asks.whole one.2 in
      first_left j item more None end asks.later left to two.1 (subst (λ say. AfterSend (route i j) None say asks.later end) (two.0 ∙ sends) asks.follows) two.2

  -- ---- what is lacking

  -- the ask, made with a vector, is for an origin's records of centre i behind those of the vector
  record IsNeed (i origin : ℕ) (need : List ℕ → Ask) : Type 0 where
    may : (v : List ℕ) → IsCarried i (need v)
    is_fit : (v : List ℕ) → fits b.n (need v) ≡ true
    gives : (v : List ℕ) → row (centre_settings b setup i) (trail_of b i) (need v) ≡ send_answer (at (horizon (centre_settings b setup i) (trail_of b i)).trimmed origin) (part_of origin (carried b.n (trail_of b i)) (at v origin) MOST_SENT) (at v origin)

  -- there is a supply from i to j of an origin's records
  record IsSupplied (i j origin : ℕ) : Type 0 where
    need : List ℕ → Ask
    is : IsNeed i origin need
    end : Option ShipEnd
    asks : List Deed
    left : List Deed
    none : list_any is_news asks ≡ false
    does : Supplies (route i j) need asks end
    run : Runs c last actor (asks ++ left)

  -- there is one between two centres, of every origin but the one that is supplied
  supply : (i j origin : ℕ) → IsCentre b i → IsCentre b j → IsCentre b origin → i ≢ j → origin ≢ j → IsSupplied i j origin
  supply i j origin from to over apart other = ⊎_elim own relay (cases_eq i origin)
    where
      own : i ≡ origin → IsSupplied i j origin
      own same =
          let r = ship_reached c last actor deeds well pass quiet (run_begins c actor deeds) (route i j) (route_in b.n i j from.0 from.1 to.0 to.1 apart) in
          subst (IsSupplied i j) same (record {
            need = own_need (route i j);
            is = record { may = λ v. tt; is_fit = λ v. refl; gives = λ v. refl };
            end = r.does.0;
            asks = r.deeds;
            left = r.left;
            none = r.quiet;
            does = r.does.1;
            run = r.run;
          })

      relay : (i ≡ origin → ⊥) → IsSupplied i j origin
      relay away =
          let r = relay_reached c last actor deeds well pass quiet (run_begins c actor deeds) (detour i origin j) (detour_in b.n i origin j from over to away apart other) in
          record {
            need = origin_need (detour i origin j);
            is = record {
              may = λ v. tt;
              is_fit = λ v. and_from (is_within 1 b.n origin) (is_within 1 MOST_SENT MOST_SENT) (and_from (nat_le 1 origin) (nat_le origin b.n) (le-leb 1 origin over.0) (le-leb origin b.n over.1)) refl;
              gives = λ v. refl;
            };
            end = r.does.0;
            asks = r.deeds;
            left = r.left;
            none = r.quiet;
            does = r.does.1;
            run = r.run;
          }

  -- two centres that run
  record AreRunning (i j : ℕ) : Type 0 where
    from : IsCentre b i
    to : IsCentre b j
    apart : i ≢ j
    from_runs : stopped (trail_of b i) ≡ false
    to_runs : stopped (trail_of b j) ≡ false

  -- where one has the records before a record of the other, it is not the next one that it lacks: its origin would have
  -- it, or it would have been supplied, and news
  not_next : (i j p : ℕ) (r : Record) → AreRunning i j → slice_get (A i) p ≡ Some r → ((e : ℕ) → count e (take p (A i)) ≤ count e (A j)) → count r.stamp.centre (A j) < r.stamp.seq → ⊥
  not_next i j p r are there before lacks = ⊎_elim home away (cases_eq r.stamp.centre j)
    where
      o : ℕ
      o = r.stamp.centre

      here : In r (A i)
      here = get_In (A i) p r there

      order : IsInOrder (centre_settings b setup i) (take p (A i)) r
      order = (whole_each b setup fit i are.from.0 are.from.1).holds p r there

      home : o ≡ j → ⊥
      home same =
          let within = slice_get_within (own_list b o) (r.stamp.seq - 1) r (agreement_whole b setup fit i are.from.0 are.from.1 r here) in
          let long : length (own_list b o) ≡ count o (A o) = own_length o (A o) in
          let counts : count o (A o) ≡ count o (A j) = ap (λ j. count o (A j)) same in
          omega (arith, within, long, counts, lacks)

      away : (o ≡ j → ⊥) → ⊥
      away other = false≢true (sym (left.nothing) ∙ ap (λ say. is_news (asked j (Deliver r begins.hops) say)) (left.said ∙ applied_then))
        where
          way : IsSupplied i j o
          way = supply i j o are.from are.to order.centre are.apart other

          begins : IsFirst (carried b.n (trail_of b i)) r MOST_SENT
          begins = first_behind (centre_settings b setup i) (carried b.n (trail_of b i)) r MOST_SENT (whole_each b setup fit i are.from.0 are.from.1) here (omega arith)

          v : List ℕ
          v = vector b.n (A j)

          has : at v o ≡ count o (A j)
          has = at-tabulate b.n o (λ e. count e (A j)) order.centre.0 order.centre.1

          after : at v o ≡ r.stamp.seq - 1
          after = omega (arith, has, lacks, order.number, before o)

          sends : answer (centre_settings b setup i) (trail_of b i) (way.need v) ≡ Records (with_hops r begins.hops ∷ begins.rest)
          sends =
              running_row (centre_settings b setup i) (trail_of b i) (way.need v) (way.is.is_fit v) are.from_runs
              ∙ (way.is.gives v
              ∙ (given _ _ (at v o) (keeps i o j are.from are.to)
              ∙ ap Records (ap (λ after. part_of o (carried b.n (trail_of b i)) after MOST_SENT) after ∙ begins.is)))

          left : WasLeft j (with_hops r begins.hops)
          left = supplied i j way.need way.end way.asks way.left v (with_hops r begins.hops) begins.rest are.from are.to way.is.may way.none way.does way.run (running_row (centre_settings b setup j) (trail_of b j) Report refl are.to_runs) sends

          covers : Covers v r.deps
          covers = Covers-tabulate b.n (λ e. count e (A j)) r.deps order.width (λ e. let needs = order.waited e in let has = before e in omega (arith, needs, has))

          next : r.tx.dot.number ≤ guard r.tx.dot.client (A j) + 1
          next = by_prefixes (λ X. Covers (vector b.n (applied b.n X)) r.deps → r.tx.dot.number ≤ guard r.tx.dot.client (applied b.n X) + 1) (trail_of b j) (λ q covers. sent_next b setup fit j q are.to.0 are.to.1 r begins.hops left.sent covers) covers

          applied_then : answer (centre_settings b setup j) (trail_of b j) (Deliver r begins.hops) ≡ Applied (r.tx.dot.number == guard r.tx.dot.client (A j) + 1)
          applied_then = applies (centre_settings b setup j) (trail_of b j) r begins.hops (sent_fits b setup fit r begins.hops left.sent) (handed_few b setup fit r begins.hops left.sent) are.to_runs (record {
            number = omega (arith, lacks, order.number, before o);
            other = other;
            covered = covers;
            next = next;
          })

  -- so it counts no fewer records of any origin
  lacks_none : (i j e : ℕ) → AreRunning i j → count e (A i) ≤ count e (A j)
  lacks_none i j e are = by_steps (λ X. (e : ℕ) → count e X ≤ count e (A j)) (A i) (λ e. omega arith) step e
    where
      step : (p : ℕ) (r : Record) → slice_get (A i) p ≡ Some r → ((e : ℕ) → count e (take p (A i)) ≤ count e (A j)) → (e : ℕ) → count e (take p (A i) ++ r ∷ []) ≤ count e (A j)
      step p r there before e = go (cases_Bool (r.stamp.centre == e))
        where
          X : List Record
          X = take p (A i)

          number : r.stamp.seq ≡ count r.stamp.centre X + 1
          number = ((whole_each b setup fit i are.from.0 are.from.1).holds p r there).number

          go : ((r.stamp.centre == e) ≡ true) ⊎ ((r.stamp.centre == e) ≡ false) → count e (X ++ r ∷ []) ≤ count e (A j)
          go (inl t) =
              let more : count e (X ++ r ∷ []) ≡ count e X + 1 = count_more e X r ∙ ap (λ b. count e X + cond b 1 0) t in
              let same : r.stamp.centre ≡ e = eqb-true r.stamp.centre e t in
              let front : count r.stamp.centre X ≡ count e X = ap (λ e. count e X) same in
              let whole : count r.stamp.centre (A j) ≡ count e (A j) = ap (λ e. count e (A j)) same in
              ⊎_elim (λ lt. absurd (not_next i j p r are there before lt)) (λ le. omega (arith, more, front, whole, number, le)) (cases_lt (count r.stamp.centre (A j)) r.stamp.seq)
          go (inr f) =
              let more : count e (X ++ r ∷ []) ≡ count e X + 0 = count_more e X r ∙ ap (λ b. count e X + cond b 1 0) f in
              omega (arith, more, before e)

  -- two running centres count as many
  pub counts_alike : (i j e : ℕ) → IsCentre b i → IsCentre b j → stopped (trail_of b i) ≡ false → stopped (trail_of b j) ≡ false → count e (A i) ≡ count e (A j)
  counts_alike i j e from to from_runs to_runs = ⊎_elim
      (λ same. ap (λ i. count e (A i)) same)
      (λ apart.
      let one = lacks_none i j e (record { from = from; to = to; apart = apart; from_runs = from_runs; to_runs = to_runs }) in
      let two = lacks_none j i e (record { from = to; to = from; apart = λ same. apart (sym same); from_runs = to_runs; to_runs = from_runs }) in
      omega (arith, one, two))
      (cases_eq i j)
