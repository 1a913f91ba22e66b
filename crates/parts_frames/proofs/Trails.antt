-- The parts of a centre that stands for a history have their numbers in range.
use Rattle.std.proofs.Common.{◌≡◌, ◌≤◌, ◌<◌, ℕ, ◌+◌, ◌-◌, ◌⊎◌, inl, inr, ⊎_elim, Some, List, [], ◌∷◌, ◌++◌, map, get_or, refl, sym, ap, ◌∙◌, subst, arith}
use Rattle.std.specs.Prelude.{All, Bool, slice_get, unwrap_or}
use Rattle.std.proofs.lemmas.Bool.{cases_lt}
use Rattle.std.proofs.lemmas.List.Elements.{All-nil, All-cons, All-map}
use Rattle.std.specs.List.{IsDistinct}
use Rattle.std.specs.List.Sorted.{IsStrictlySortedBy}
use Rattle.std.specs.Map.{lookup, keys_of}
use Rattle.std.specs.Option.{option_map}
use Rattle.std.proofs.lemmas.Map.Entries.{lookup_from_place}
use Rattle.std.proofs.lemmas.Map.Keys.{IsDistinct-from_sorted}
use Rattle.std.proofs.lemmas.Option.{get_or_from_slice_get, slice_get-map}
use Rattle.list_core.specs.Members.{In}
use Rattle.list_core.proofs.Gets.{In_get}
use Rattle.list_core.proofs.Members.{In-All, In_left, In_right, In_map, In_from_map, In_drop, In_from_filter}
use Rattle.list_core.proofs.Permutations.{perm_in}
use Rattle.ids_core.specs.declared.limits.TheConstants.{MOST_RECORDS}
use Rattle.ids_core.specs.declared.object.ObjectId.{ObjectId}
use Rattle.ids_core.specs.Ids.{same_object}
use Rattle.ids_core.specs.Orders.{object_cmp, same_object-by_cmp}
use Rattle.ids_core.specs.Same.{same_object_equivalence}
use Rattle.tx_core.specs.declared.tx.Tx.{Tx}
use Rattle.tx_core.specs.declared.tx.Record.{Record}
use Rattle.tx_core.specs.declared.part.RestPart.{RestPart}
use Rattle.tx_core.specs.declared.part.StatePart.{StatePart}
use Rattle.tx_core.specs.Checks.{IsFit}
use Rattle.tx_core.specs.States.{empty_of}
use Rattle.check_point.specs.Operations.{state_after}
use Rattle.check_point.specs.Points.{PointView, IsPointOf}
use Rattle.check_point.specs.PointParts.{state_entries, AscendByObject, HasStates}
use Rattle.op_log.specs.declared.logged.Logged.{Logged}
use Rattle.op_log.specs.RestParts.{rest_part}
use Rattle.point_log.specs.Splits.{first_txs}
use Rattle.point_log.specs.LogSplits.{txs_of}
use Rattle.dc_talk.specs.declared.ask.TheConstants.{MOST_HOPS}
use Rattle.dc_talk.specs.declared.sent.Sent.{Sent}
use Rattle.dc_talk.specs.declared.settings.Settings.{Settings}
use Rattle.dc_talk.specs.Entries.{Entry}
use Rattle.dc_talk.specs.Records.{firsts}
use Rattle.dc_talk.specs.Sents.{of_origin}
use Rattle.dc_talk.specs.Trails.{carried, applied}
use Rattle.dc_talk.specs.Answers.{History}
use Rattle.dc_talk.specs.Laws.{IsCentreHistory}
use Rattle.dc_talk.proofs.Applied.{in_order}
use Rattle.dc_talk.proofs.Firsts.{firsts_in}
use Rattle.trail_frames.proofs.Carrying.{carried_is, delivered_from}
use Rattle.centre_parts.specs.declared.condition.Condition.TheVariants.{Centre, Limit, PointObjects}
use Rattle.centre_parts.specs.declared.part.CentreParts.{CentreParts}
use Rattle.centre_parts.specs.Conditions.{MeetsAll}
use Rattle.dc_centre.specs.Centre.{CentreView, StandsFor}
use Rattle.dc_centre.specs.Outboxes.{row_of}
use Rattle.dc_centre.specs.Parts.{ArePartsOf}
use Rattle.state_codec.specs.Plain.{plain_of}
use Rattle.parts_codec.specs.Plain.{plain_part, plain_centre}
use Rattle.parts_frames.specs.Ranges.{IsRangedState, IsRangedPart, IsRangedRest, IsRangedSent, IsRangedCentre}
use Rattle.parts_frames.specs.Far.{HasFarRecord}
use Rattle.parts_frames.proofs.Folding.{IsFitAlone, plain_after}

-- all of them hold it, or the first that does not has the other
each_or : {X : Type 0} (P : X → Type 0) (Q : Type 0) (xs : List X) → ((x : X) → In x xs → Q ⊎ P x) → Q ⊎ All P xs
each_or {X = X} P Q xs test = go xs test
  where
    go : (ys : List X) → ((y : X) → In y ys → Q ⊎ P y) → Q ⊎ All P ys
    go [] test = inr (All-nil P)
    go (y ∷ ys) test = ⊎_elim inl (λ first. ⊎_elim inl (λ rest. inr (All-cons P y ys first rest)) (go ys (λ z i. test z (inr i)))) (test y (inl refl))

-- ---- what stands at a place of the point's parts

-- the keys of the entries are the objects
keys_are : (states : List StatePart) → map (λ (p : StatePart). p.object) states ≡ keys_of (state_entries states)
keys_are [] = refl
keys_are (p ∷ states) = ap (λ l. p.object ∷ l) (keys_are states)

-- the state of a part is that of its object after the transactions that were folded
state_at : (point : PointView) (txs : List Tx) (states : List StatePart) → IsPointOf point txs → AscendByObject states → HasStates point.states states → (k : ℕ) (p : StatePart) → slice_get states k ≡ Some p → p.state ≡ state_after p.object txs
state_at point txs states is up told k p there =
    let o = p.object in
    let sorted = IsDistinct-from_sorted object_cmp (keys_of (state_entries states)) (subst (IsStrictlySortedBy object_cmp) (keys_are states) up) in
    let apart = subst (λ (e : ObjectId → ObjectId → Bool). IsDistinct e (keys_of (state_entries states))) (λ i a b. sym (same_object-by_cmp a b) i) sorted in
    let entry : slice_get (state_entries states) k ≡ Some (o, p.state) = slice_get-map (λ (p : StatePart). (p.object, p.state)) states k ∙ ap (option_map (λ (p : StatePart). (p.object, p.state))) there in
    let found : lookup (same_object o) point.states ≡ Some p.state = sym (told o) ∙ lookup_from_place same_object_equivalence (state_entries states) k o p.state apart entry in
    sym (ap (λ found. unwrap_or found (empty_of o.sort)) found) ∙ is.states o

-- ---- the parts

module _ (c : CentreView) (trail : List Entry) (parts : CentreParts) (history : History c.settings trail) (stands : StandsFor c trail) (all : MeetsAll parts) (are : ArePartsOf c parts) where
  -- the records with their hops, and without
  abbrev C : List Sent
  C = carried c.settings.n trail

  abbrev A : List Record
  A = applied c.settings.n trail

  -- the history is one of a centre
  known : IsCentreHistory c.settings trail
  known = record {
    centre = subst (λ (s : Settings). (1 ≤ s.me) × (s.me ≤ s.n)) are.settings (all.meets Centre).0;
    few = subst (λ (s : Settings). s.limit ≤ MOST_RECORDS) are.settings (all.meets Limit);
    history = history;
  }

  -- ---- transactions

  -- that of each record is fit
  fit_applied : (r : Record) → In r A → IsFitAlone r.tx
  fit_applied r i =
      let place = In_get A r i in
      let fit = ((in_order c.settings trail known).holds place.0 r place.1).fit in
      subst (λ n. IsFit n r.tx) (sym fit.width) fit

  -- so is that of each first record
  fit_first : (tx : Tx) → In tx (first_txs A) → IsFitAlone tx
  fit_first tx i =
      let from = In_from_map (λ (r : Record). r.tx) (firsts A) tx i in
      subst IsFitAlone (sym from.2) (fit_applied from.0 (firsts_in [] A from.0 from.1))

  abbrev folded : List Tx
  folded = stands.holds.applied.stored.folded

  abbrev kept : List Tx
  kept = txs_of c.applied.log.items

  -- so are those that were folded, and those that were not
  fit_folded : (tx : Tx) → In tx folded → IsFitAlone tx
  fit_folded tx i = fit_first tx ((perm_in (folded ++ kept) (first_txs A) tx stands.holds.applied.stored.in_log.split.whole).0 (In_left folded kept tx i))

  fit_kept : (tx : Tx) → In tx kept → IsFitAlone tx
  fit_kept tx i = fit_first tx ((perm_in (folded ++ kept) (first_txs A) tx stands.holds.applied.stored.in_log.split.whole).0 (In_right folded kept tx i))

  rest_ranged : All IsRangedRest parts.applied.rest
  rest_ranged = In-All IsRangedRest parts.applied.rest each
    where
      each : (part : RestPart) → In part parts.applied.rest → IsRangedRest part
      each part i =
          let from = In_from_map rest_part c.applied.log.items part (subst (In part) are.applied.rest i) in
          subst IsRangedRest (sym from.2) (fit_kept from.0.tx (In_map (λ (x : Logged). x.tx) c.applied.log.items from.0 from.1))

  -- ---- states

  state_ranged : (part : StatePart) → In part parts.applied.point.states → IsRangedPart (plain_part part)
  state_ranged part i =
      let place = In_get parts.applied.point.states part i in
      let stored = stands.holds.applied.stored in
      subst (λ s. IsRangedState (plain_of s)) (sym (state_at c.applied.point folded parts.applied.point.states stored.at_point (all.meets PointObjects) are.applied.point.states place.0 part place.1)) (plain_after part.object folded fit_folded)

  states_ranged : All IsRangedPart (map plain_part parts.applied.point.states)
  states_ranged = All-map IsRangedPart plain_part parts.applied.point.states (In-All (λ part. IsRangedPart (plain_part part)) parts.applied.point.states state_ranged)

  -- ---- records

  -- a record of the centre can be delivered, or has too many hops
  sent_ranged : (sent : Sent) → In sent C → HasFarRecord c.settings trail ⊎ IsRangedSent sent
  sent_ranged sent i = ⊎_elim (λ far. inl (record { sent = sent; there = i; far = far })) (λ near. inr (delivered_from c.settings trail known sent (carried_is c.settings trail known sent i) near)) (cases_lt MOST_HOPS sent.hops)

  -- the same of each record of a row
  row_ranged : (e : ℕ) → 1 ≤ e → (sent : Sent) → In sent (row_of c.outbox e) → HasFarRecord c.settings trail ⊎ IsRangedSent sent
  row_ranged e low sent i = ⊎_elim stray own (cases_lt c.settings.n e)
    where
      stray : c.settings.n < e → HasFarRecord c.settings trail ⊎ IsRangedSent sent
      stray high = absurd (subst (In sent) (stands.holds.outbox.none e high) i)

      own : e ≤ c.settings.n → HasFarRecord c.settings trail ⊎ IsRangedSent sent
      own high =
          let there = subst (In sent) (stands.holds.outbox.each e low high) i in
          sent_ranged sent (In_from_filter _ C sent (In_drop _ (of_origin e C) sent there)).0

  -- and of all rows
  outbox_ranged : HasFarRecord c.settings trail ⊎ All (All IsRangedSent) c.outbox
  outbox_ranged = each_or (All IsRangedSent) (HasFarRecord c.settings trail) c.outbox row
    where
      row : (sents : List Sent) → In sents c.outbox → HasFarRecord c.settings trail ⊎ All IsRangedSent sents
      row sents i =
          let place = In_get c.outbox sents i in
          let back : place.0 + 1 - 1 ≡ place.0 = omega arith in
          let here : row_of c.outbox (place.0 + 1) ≡ sents = ap (λ k. get_or c.outbox k []) back ∙ get_or_from_slice_get c.outbox place.0 sents [] place.1 in
          each_or IsRangedSent (HasFarRecord c.settings trail) sents (λ sent j. row_ranged (place.0 + 1) (omega arith) sent (subst (In sent) (sym here) j))

  pub ranged : HasFarRecord c.settings trail ⊎ IsRangedCentre (plain_centre parts)
  ranged = ⊎_elim inl (λ outbox. inr (record { states = states_ranged; rest = rest_ranged; outbox = subst (All (All IsRangedSent)) (sym are.outbox) outbox })) outbox_ranged
