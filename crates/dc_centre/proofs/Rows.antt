-- Rows that hold the applied records of each origin above trimmed's entry.
use Rattle.std.proofs.Common.{◌≡◌, ◌≢◌, ℕ, zero, suc, ◌-◌, ◌≤◌, ◌<◌, true, false, cond, ◌⊎◌, inl, inr, ⊎_elim, List, [], ◌∷◌, ◌++◌, length, map, take, drop, refl, sym, ap, ◌∙◌, subst, arith}
use Rattle.std.specs.Prelude.{replicate, slice_index_or, slice_set, nat_le, ◌==◌}
use Rattle.std.proofs.lemmas.Bool.{cases_Bool, cases_lt, cases_eq, eq-eqb, eqb-true, le-leb, leb-true, leb-false}
use Rattle.std.proofs.lemmas.List.{get_or_past, get_or-set_same, get_or-set_other, get_or-map, map-set, set-get_or, length-set, drop-append-le, append-nil, length-append, length-replicate}
use Rattle.std.proofs.lemmas.List.Elements.{filter-append}
use Rattle.ids_core.specs.declared.limits.TheConstants.{MOST_CENTRES}
use Rattle.vv_core.specs.Vectors.{at, zeros}
use Rattle.vv_core.proofs.Entrywise.{at-zeros}
use Rattle.dc_talk.specs.declared.sent.Sent.{Sent}
use Rattle.dc_talk.specs.Sents.{of_origin}
use Rattle.dc_talk.specs.Answers.{part_of}
use Rattle.dc_centre.specs.Outboxes.{row_of, put_by, HasTrimmed, Keeps}
use Rattle.dc_centre.proofs.ListParts.{kept_past}

-- no records
abbrev the_none : List Sent
the_none = []

-- the records of an origin with one more record
of_more : (e : ℕ) (C : List Sent) (x : Sent) → of_origin e (C ++ x ∷ []) ≡ of_origin e C ++ cond (x.item.stamp.centre == e) (x ∷ []) []
of_more e C x = filter-append (λ (x : Sent). x.item.stamp.centre == e) C (x ∷ [])

-- with one more that was applied
pub keeps_put : (n : ℕ) (rows : List (List Sent)) (trimmed : List ℕ) (C : List Sent) (x : Sent) → n ≤ MOST_CENTRES → Keeps n rows trimmed C → 1 ≤ x.item.stamp.centre → x.item.stamp.centre ≤ n → Keeps n (put_by rows x) trimmed (C ++ x ∷ [])
keeps_put n rows trimmed C x most_n k low high = record {
  long = length-set rows (o - 1) (row_of rows o ++ x ∷ []) ∙ k.long;
  each = λ e least most. each e least most (cases_eq o e);
  few = λ e least most. few e least most;
  none = λ e past. get_or-set_other rows (o - 1) (e - 1) (row_of rows o ++ x ∷ []) [] (λ same. omega (arith, low, high, past, same)) ∙ k.none e past;
}
  where
    o : ℕ
    o = x.item.stamp.centre

    each : (e : ℕ) → 1 ≤ e → e ≤ n → (o ≡ e) ⊎ (o ≢ e) → row_of (put_by rows x) e ≡ drop (at trimmed e) (of_origin e (C ++ x ∷ []))
    each e least most (inl same) =
        let here : row_of (put_by rows x) o ≡ row_of rows o ++ x ∷ [] = get_or-set_same rows (o - 1) (row_of rows o ++ x ∷ []) [] (let long = k.long in omega (arith, low, high, long, most_n)) in
        let more : of_origin o (C ++ x ∷ []) ≡ of_origin o C ++ x ∷ [] = of_more o C x ∙ ap (λ t. of_origin o C ++ cond t (x ∷ []) []) (eq-eqb o o refl) in
        subst (λ e. row_of (put_by rows x) e ≡ drop (at trimmed e) (of_origin e (C ++ x ∷ []))) same
        (here ∙ (ap (λ l. l ++ x ∷ []) (k.each o low high) ∙ (sym (drop-append-le (at trimmed o) (of_origin o C) (x ∷ []) (k.few o low high)) ∙ ap (drop (at trimmed o)) (sym more))))
    each e least most (inr other) =
        let here : row_of (put_by rows x) e ≡ row_of rows e = get_or-set_other rows (o - 1) (e - 1) (row_of rows o ++ x ∷ []) [] (λ same. other (omega (arith, low, least, same))) in
        let none : (o == e) ≡ false = ⊎_elim (λ t. absurd (other (eqb-true o e t))) (λ f. f) (cases_Bool (o == e)) in
        let more : of_origin e (C ++ x ∷ []) ≡ of_origin e C = of_more e C x ∙ (ap (λ t. of_origin e C ++ cond t (x ∷ []) []) none ∙ append-nil (of_origin e C)) in
        here ∙ (k.each e least most ∙ ap (drop (at trimmed e)) (sym more))

    few : (e : ℕ) → 1 ≤ e → e ≤ n → at trimmed e ≤ length (of_origin e (C ++ x ∷ []))
    few e least most =
        let more : length (of_origin e (C ++ x ∷ [])) ≡ length (of_origin e C ++ cond (o == e) (x ∷ []) []) = ap length (of_more e C x) in
        let long = length-append (of_origin e C) (cond (o == e) (x ∷ []) []) in
        let before = k.few e least most in
        omega (arith, more, long, before)

-- with more let go
pub keeps_trim : (n : ℕ) (rows later : List (List Sent)) (low high : List ℕ) (C : List Sent) → Keeps n rows low C → HasTrimmed n low high rows later → ((e : ℕ) → at low e ≤ at high e) → ((e : ℕ) → 1 ≤ e → e ≤ n → at high e ≤ length (of_origin e C)) → Keeps n later high C
keeps_trim n rows later low high C k t above here = record {
  long = t.long ∙ k.long;
  each = λ e least most. t.each e least most ∙ (ap (drop (at high e - at low e)) (k.each e least most) ∙ kept_past (of_origin e C) (at low e) (at high e) (above e));
  few = here;
  none = λ e past. t.others e past ∙ k.none e past;
}

-- what is asked for
pub keeps_part : (n : ℕ) (rows : List (List Sent)) (trimmed : List ℕ) (C : List Sent) (e after most : ℕ) → Keeps n rows trimmed C → 1 ≤ e → e ≤ n → at trimmed e ≤ after → take most (drop (after - at trimmed e) (row_of rows e)) ≡ part_of e C after most
keeps_part n rows trimmed C e after most k least high le = ap (take most) (ap (drop (after - at trimmed e)) (k.each e least high) ∙ kept_past (of_origin e C) (at trimmed e) after le)

-- ---- one row of several

module _ {Q : Type 0} (R : List Q) (p : ℕ) (d new : Q) (within : p < length R) where
  -- a row that shows the same leaves all as they were
  pub rows_kept : (f : Q → List Sent) → f new ≡ f (slice_index_or R p d) → map f (slice_set R p new) ≡ map f R
  rows_kept f same = map-set f R p new ∙ (ap (λ row. slice_set (map f R) p row) (same ∙ sym (get_or-map f R p d [] within)) ∙ set-get_or (map f R) p [])

  -- a row with one more record
  pub rows_put : (f : Q → List Sent) (x : Sent) → f new ≡ f (slice_index_or R p d) ++ x ∷ [] → map f (slice_set R p new) ≡ slice_set (map f R) p (slice_index_or (map f R) p [] ++ x ∷ [])
  rows_put f x same = map-set f R p new ∙ ap (λ row. slice_set (map f R) p row) (same ∙ ap (λ l. l ++ x ∷ []) (sym (get_or-map f R p d [] within)))

  -- a row of which the first records are gone
  pub rows_drop : (f : Q → List Sent) (count : ℕ) → f new ≡ drop count (f (slice_index_or R p d)) → map f (slice_set R p new) ≡ slice_set (map f R) p (drop count (slice_index_or (map f R) p []))
  rows_drop f count same = map-set f R p new ∙ ap (λ row. slice_set (map f R) p row) (same ∙ ap (drop count) (sym (get_or-map f R p d [] within)))

  -- the room of the row
  pub rows_room : (g : Q → ℕ) → 1 ≤ g new → 1 ≤ slice_index_or (map g (slice_set R p new)) p 0
  rows_room g room =
      let long = length-set R p new in
      let is : slice_index_or (map g (slice_set R p new)) p 0 ≡ g new = get_or-map g (slice_set R p new) p d 0 (omega (arith, long, within)) ∙ ap g (get_or-set_same R p new d within) in
      omega (arith, room, is)

-- ---- letting go, origin by origin

-- of the first so many origins alone
pub record HasTrimmedFirst (count : ℕ) (low high : List ℕ) (old new : List (List Sent)) : Type 0 where
  pub few : count ≤ length old
  pub long : length new ≡ length old
  pub each : (e : ℕ) → 1 ≤ e → e ≤ length old → row_of new e ≡ cond (nat_le e count) (drop (at high e - at low e) (row_of old e)) (row_of old e)

-- a greater number is not within
above : (x y : ℕ) → y < x → nat_le x y ≡ false
above x y lt = ⊎_elim (λ t. absurd (let le = leb-true x y t in omega (arith, le, lt))) (λ f. f) (cases_Bool (nat_le x y))

-- of none
pub trimmed_none : (low high : List ℕ) (rows : List (List Sent)) → HasTrimmedFirst 0 low high rows rows
trimmed_none low high rows = record { few = omega arith; long = refl; each = λ e least most. ap (λ t. cond t (drop (at high e - at low e) (row_of rows e)) (row_of rows e)) (sym (above e 0 (omega (arith, least)))) }

-- of one more
pub trimmed_more : (k gone : ℕ) (low high : List ℕ) (old now new : List (List Sent)) → HasTrimmedFirst k low high old now → k < length old → gone ≡ at high (suc k) - at low (suc k) → new ≡ slice_set now k (drop gone (slice_index_or now k [])) → HasTrimmedFirst (suc k) low high old new
trimmed_more k gone low high old now new t within count is = record {
  few = omega (arith, within);
  long = ap length is ∙ (length-set now k (drop gone (slice_index_or now k [])) ∙ t.long);
  each = λ e least most. ap (λ rows. row_of rows e) is ∙ each e least most (cases_eq (suc k) e);
}
  where
    -- the row of an origin stands at its number less one
    place : (rows : List (List Sent)) → row_of rows (suc k) ≡ slice_index_or rows k []
    place rows = let one : suc k - 1 ≡ k = omega arith in ap (λ p. slice_index_or rows p []) one

    each : (e : ℕ) → 1 ≤ e → e ≤ length old → (suc k ≡ e) ⊎ (suc k ≢ e) → row_of (slice_set now k (drop gone (slice_index_or now k []))) e ≡ cond (nat_le e (suc k)) (drop (at high e - at low e) (row_of old e)) (row_of old e)
    each e least most (inl same) =
        let long = t.long in
        let here : row_of (slice_set now k (drop gone (slice_index_or now k []))) (suc k) ≡ drop gone (slice_index_or now k []) = place (slice_set now k (drop gone (slice_index_or now k []))) ∙ get_or-set_same now k (drop gone (slice_index_or now k [])) [] (omega (arith, within, long)) in
        let before : slice_index_or now k [] ≡ row_of old (suc k) = sym (place now) ∙ (t.each (suc k) (omega arith) (omega (arith, within)) ∙ ap (λ b. cond b (drop (at high (suc k) - at low (suc k)) (row_of old (suc k))) (row_of old (suc k))) (above (suc k) k (omega arith))) in
        let now_is : row_of (slice_set now k (drop gone (slice_index_or now k []))) (suc k) ≡ drop (at high (suc k) - at low (suc k)) (row_of old (suc k)) = here ∙ ((λ i. drop (count i) (slice_index_or now k [])) ∙ ap (drop (at high (suc k) - at low (suc k))) before) in
        subst (λ e. row_of (slice_set now k (drop gone (slice_index_or now k []))) e ≡ cond (nat_le e (suc k)) (drop (at high e - at low e) (row_of old e)) (row_of old e)) same
        (now_is ∙ ap (λ b. cond b (drop (at high (suc k) - at low (suc k)) (row_of old (suc k))) (row_of old (suc k))) (sym (le-leb (suc k) (suc k) (omega arith))))
    each e least most (inr other) =
        let here : row_of (slice_set now k (drop gone (slice_index_or now k []))) e ≡ row_of now e = get_or-set_other now k (e - 1) (drop gone (slice_index_or now k [])) [] (λ same. other (omega (arith, least, same))) in
        here ∙ (t.each e least most ∙ ap (λ b. cond b (drop (at high e - at low e) (row_of old e)) (row_of old e)) (alike (cases_Bool (nat_le e k)) (cases_Bool (nat_le e (suc k)))))
      where
        alike : (nat_le e k ≡ true) ⊎ (nat_le e k ≡ false) → (nat_le e (suc k) ≡ true) ⊎ (nat_le e (suc k) ≡ false) → nat_le e k ≡ nat_le e (suc k)
        alike (inl a) (inl b) = a ∙ sym b
        alike (inr a) (inr b) = a ∙ sym b
        alike (inl a) (inr b) = absurd (let le = leb-true e k a in let lt = leb-false e (suc k) b in omega (arith, le, lt))
        alike (inr a) (inl b) = absurd (let le = leb-true e (suc k) b in let lt = leb-false e k a in other (omega (arith, le, lt)))

-- of as many as the vectors have
pub trimmed_all : (n : ℕ) (low high : List ℕ) (old new : List (List Sent)) → HasTrimmedFirst n low high old new → HasTrimmed n low high old new
trimmed_all n low high old new t = record {
  long = t.long;
  each = λ e least most. t.each e least (let few = t.few in omega (arith, most, few)) ∙ ap (λ b. cond b (drop (at high e - at low e) (row_of old e)) (row_of old e)) (le-leb e n most);
  others = λ e past. ⊎_elim (outside e) (inside e past) (cases_lt (length old) e);
}
  where
    outside : (e : ℕ) → length old < e → row_of new e ≡ row_of old e
    outside e past = get_or_past new (e - 1) [] (let long = t.long in omega (arith, past, long)) ∙ sym (get_or_past old (e - 1) [] (omega (arith, past)))

    inside : (e : ℕ) → n < e → e ≤ length old → row_of new e ≡ row_of old e
    inside e past within = t.each e (omega (arith, past)) within ∙ ap (λ b. cond b (drop (at high e - at low e) (row_of old e)) (row_of old e)) (above e n past)

-- ---- at first

-- with nothing applied and nothing let go
pub keeps_none : (n : ℕ) (rows : List (List Sent)) → rows ≡ replicate MOST_CENTRES [] → n ≤ MOST_CENTRES → Keeps n rows (zeros n) []
keeps_none n rows is few = record {
  long = ap (λ (l : List (List Sent)). length l) is ∙ length-replicate MOST_CENTRES the_none;
  each = λ e least most. ap (λ rows. row_of rows e) is ∙ (empty (e - 1) MOST_CENTRES ∙ sym (drop-nil (at (zeros n) e)));
  few = λ e least most. let none = at-zeros n e in omega (arith, none);
  none = λ e past. ap (λ rows. row_of rows e) is ∙ empty (e - 1) MOST_CENTRES;
}
  where
    empty : (p m : ℕ) → slice_index_or (replicate m (the_none)) p [] ≡ []
    empty p zero = refl
    empty zero (suc m) = refl
    empty (suc p) (suc m) = empty p m

    drop-nil : (m : ℕ) → drop m (the_none) ≡ []
    drop-nil zero = refl
    drop-nil (suc m) = refl
