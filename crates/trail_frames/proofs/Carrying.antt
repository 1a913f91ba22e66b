-- The records that a centre has can be delivered but for their hops.
use Rattle.std.proofs.Common.{◌≡◌, ◌≤◌, ◌<◌, ℕ, ◌+◌, true, inl, inr, ⊎_elim, List, [], ◌∷◌, ◌++◌, Some, length, take, refl, sym, ap, ◌∙◌, subst, arith}
use Rattle.std.specs.Prelude.{slice_get, drop, nat_le, ◌==◌, ◌↔◌}
use Rattle.std.proofs.lemmas.Bool.{cases_lt, and_parts, and_from, leb-true, le-leb, eqb-true}
use Rattle.std.proofs.lemmas.List.Sums.{fold_push}
use Rattle.list_core.specs.Members.{In}
use Rattle.list_core.specs.Moments.{Each}
use Rattle.list_core.proofs.Gets.{In_get}
use Rattle.list_core.proofs.Members.{In-All, In_more, In_map, In_drop, In_take, In_from_filter}
use Rattle.list_core.proofs.Moments.{each_take, by_prefixes, by_steps}
use Rattle.ids_core.specs.declared.limits.TheConstants.{MOST_RECORDS}
use Rattle.vv_core.specs.declared.stamp.Stamp.{Stamp}
use Rattle.vv_core.proofs.Entrywise.{at-tabulate_le}
use Rattle.tx_core.specs.declared.tx.Record.{Record}
use Rattle.dc_talk.specs.declared.ask.TheConstants.{MOST_HOPS}
use Rattle.dc_talk.specs.declared.ask.Ask.{Ask}
use Rattle.dc_talk.specs.declared.ask.Ask.TheVariants.{Commit, Send, Relay, Deliver}
use Rattle.dc_talk.specs.declared.say.Say.TheVariants.{Stamped, Applied, Records}
use Rattle.dc_talk.specs.declared.say.Say.{Say}
use Rattle.dc_talk.specs.declared.sent.Sent.{Sent}
use Rattle.dc_talk.specs.declared.settings.Settings.{Settings}
use Rattle.dc_talk.specs.Entries.{Entry}
use Rattle.dc_talk.specs.Records.{count, vector}
use Rattle.dc_talk.specs.Sents.{with_hops, of_origin}
use Rattle.dc_talk.specs.Trails.{carried_on, carried, applied}
use Rattle.dc_talk.specs.Answers.{are_modest, is_fit_item, IsAnswer, answer}
use Rattle.dc_talk.specs.Laws.{IsCentreHistory, IsInOrder, HasStamp}
use Rattle.dc_talk.proofs.Applied.{Came, came_by, in_order}
use Rattle.dc_talk.proofs.Answers.{fitting}
use Rattle.dc_talk.proofs.Counts.{count_take}
use Rattle.dc_talk.proofs.PeerAnswers.{modest_from, fits_item, item_fits, records_by, handed_by}
use Rattle.dc_talk.proofs.Places.{no_gaps}
use Rattle.link_frames.specs.Frames.{is_deliverable}
use Rattle.trail_frames.specs.Carried.{IsCarried, AreDeliverable, AreDeliverableNear}

-- ---- counts

-- there are few records of each centre, since the last of them is in order
few_in_order : (s : Settings) (A : List Record) (e : ℕ) → Each (IsInOrder s) A → count e A ≤ MOST_RECORDS
few_in_order s A e each = ⊎_elim none some (cases_lt 0 (count e A))
  where
    none : 0 < count e A → count e A ≤ MOST_RECORDS
    none there =
        let last : HasStamp A e (count e A) = (no_gaps s A each).all e (count e A) there (omega arith) in
        let place = In_get A last.item last.there in
        let few = (each.holds place.0 last.item place.1).few in
        omega (arith, few, ap (λ (at : Stamp). at.seq) last.stamp_is)

    some : count e A ≤ 0 → count e A ≤ MOST_RECORDS
    some none_there = omega (arith, none_there)

-- ---- records

-- a record that is in order after some can be delivered but for its hops
fit_in_order : (s : Settings) (A : List Record) (item : Record) → Each (IsInOrder s) A → In item A → is_fit_item s.n item ≡ true
fit_in_order s A item each i =
    let place = In_get A item i in
    let is = each.holds place.0 item place.1 in
    fits_item s.n item (record { centre = is.centre; seq = (omega (arith, is.number), is.few); width = is.width; fit = is.fit })
    (modest_from item.deps (λ e. omega (arith, is.waited e, count_take e place.0 A, few_in_order s A e each)))

module _ (s : Settings) (trail : List Entry) (history : IsCentreHistory s trail) where
  -- there are few of each centre
  pub few_counted : (e : ℕ) → count e (applied s.n trail) ≤ MOST_RECORDS
  few_counted e = few_in_order s (applied s.n trail) e (in_order s trail history)

  -- so the vector is modest
  pub modest_vector : are_modest (vector s.n (applied s.n trail)) ≡ true
  modest_vector = modest_from (vector s.n (applied s.n trail)) (λ e. omega (arith, at-tabulate_le s.n e (λ e. count e (applied s.n trail)), few_counted e))

  -- each record that it has came in a delivery that has few hops, or was stamped
  few_hops : (sent : Sent) → In sent (carried s.n trail) → sent.hops ≤ MOST_HOPS + 1
  few_hops = by_steps (λ X. (sent : Sent) → In sent (carried s.n X) → sent.hops ≤ MOST_HOPS + 1) trail (λ sent i. absurd i) step
    where
      Q : List Sent → Type 0
      Q C = (sent : Sent) → In sent C → sent.hops ≤ MOST_HOPS + 1

      more : (C : List Sent) (last : Sent) → last.hops ≤ MOST_HOPS + 1 → Q C → Q (C ++ last ∷ [])
      more C last few rest sent i = ⊎_elim (rest sent) (λ same. subst (λ (sent : Sent). sent.hops ≤ MOST_HOPS + 1) (sym same) few) (In_more C last sent i)

      step : (p : ℕ) (entry : Entry) → slice_get trail p ≡ Some entry → Q (carried s.n (take p trail)) → Q (carried s.n (take p trail ++ entry ∷ []))
      step p entry there rest = subst Q (sym (fold_push (λ C (entry : Entry). carried_on s.n C entry.ask entry.say) [] (take p trail) entry)) (go entry.ask refl entry.say refl)
        where
          go : (ask : Ask) → entry.ask ≡ ask → (say : Say) → entry.say ≡ say → Q (carried_on s.n (carried s.n (take p trail)) ask say)
          go (Commit tx) asks (Stamped stamp) says = more (carried s.n (take p trail)) _ (omega arith) rest
          go (Deliver item hops) asks (Applied fresh) says =
              let answered = sym says ∙ (history.history.holds p entry there ∙ ap (answer s (take p trail)) asks) in
              let fit = (fitting s (take p trail) (Deliver item hops) (Applied fresh) answered (λ e. cc) (λ e. cc)).0 in
              let near = leb-true hops MOST_HOPS (and_parts (is_fit_item s.n item) (nat_le hops MOST_HOPS) fit).1 in
              more (carried s.n (take p trail)) (with_hops item (hops + 1)) (omega (arith, near)) rest
          go _ asks _ says = rest

  -- what the centre stamped has none
  own_hops : (sent : Sent) → Came s.me trail sent → sent.item.stamp.centre ≡ s.me → sent.hops ≡ 0
  own_hops sent (inl stamped) own = stamped.0
  own_hops sent (inr delivered) own = absurd (delivered.2.other own)

  -- each record that the centre has
  pub carried_is : (sent : Sent) → In sent (carried s.n trail) → IsCarried s sent
  carried_is sent i = record {
    fit = fit_in_order s (applied s.n trail) sent.item (in_order s trail history) (In_map (λ (sent : Sent). sent.item) (carried s.n trail) sent i);
    hops = few_hops sent i;
    own = own_hops sent (by_prefixes (λ X. In sent (carried s.n X) → Came s.me trail sent) trail (λ p. came_by s trail history.history p sent) i);
  }

  -- ---- answers

  -- a record that the centre has can be delivered where it has few hops
  pub delivered_from : (sent : Sent) → IsCarried s sent → sent.hops ≤ MOST_HOPS → is_deliverable sent ≡ true
  delivered_from sent is near =
      and_from (is_fit_item (length sent.item.deps) sent.item) (nat_le sent.hops MOST_HOPS)
      (subst (λ n. is_fit_item n sent.item ≡ true) (sym (item_fits s.n sent.item is.fit).width) is.fit) (le-leb sent.hops MOST_HOPS near)

  -- a record that can be delivered has few
  delivered_near : (sent : Sent) → is_deliverable sent ≡ true → sent.hops ≤ MOST_HOPS
  delivered_near sent fit = leb-true sent.hops MOST_HOPS (and_parts (is_fit_item (length sent.item.deps) sent.item) (nat_le sent.hops MOST_HOPS) fit).1

  -- those that answer a relay can be delivered exactly where they have few
  pub relayed_near : (origin after most : ℕ) (list : List Sent) → IsAnswer s trail (Relay origin after most) (Records list) → AreDeliverableNear list
  relayed_near origin after most list is = In-All (λ sent. (is_deliverable sent ≡ true) ↔ (sent.hops ≤ MOST_HOPS)) list
      (λ sent i. (delivered_near sent, delivered_from sent (carried_is sent (handed_by s trail (Relay origin after most) list sent is i))))

  -- those that answer a send are the centre's own, so they can
  pub sent_deliverable : (after most : ℕ) (list : List Sent) → IsAnswer s trail (Send after most) (Records list) → AreDeliverable list
  sent_deliverable after most list is = In-All (λ sent. is_deliverable sent ≡ true) list each
    where
      each : (sent : Sent) → In sent list → is_deliverable sent ≡ true
      each sent i =
          let C = carried s.n trail in
          let part = subst (In sent) (records_by s trail after most list is) i in
          let own = (In_from_filter (λ (sent : Sent). sent.item.stamp.centre == s.me) C sent (In_drop after (of_origin s.me C) sent (In_take most (drop after (of_origin s.me C)) sent part))).1 in
          let known = carried_is sent (handed_by s trail (Send after most) list sent is i) in
          delivered_from sent known (omega (arith, known.own (eqb-true sent.item.stamp.centre s.me own)))

-- ---- answers that stand in a history

-- a history up to a place is one
history_before : (s : Settings) (trail : List Entry) (p : ℕ) → IsCentreHistory s trail → IsCentreHistory s (take p trail)
history_before s trail p history = record { centre = history.centre; few = history.few; history = each_take _ trail p history.history }

-- an answer that stands in a history is one after the entries before it
pub answered_before : (P : List Sent → Type 0) (s : Settings) (trail : List Entry) (entry : Entry) (ask : Ask) (list : List Sent) → IsCentreHistory s trail → In entry trail → entry.ask ≡ ask → entry.say ≡ Records list
    → ((before : List Entry) → IsCentreHistory s before → IsAnswer s before ask (Records list) → P list) → P list
answered_before P s trail entry ask list history i asks says after =
    let place = In_get trail entry i in
    let before = take place.0 trail in
    after before (history_before s trail place.0 history) (sym says ∙ (history.history.holds place.0 entry place.1 ∙ ap (answer s before) asks))
