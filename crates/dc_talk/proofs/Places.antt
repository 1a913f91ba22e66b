-- Where the records of an applied list stand: each stamp within the counts at one place, each number of a
-- client up to its greatest, each own record at its number.
use Rattle.std.proofs.Common.{◌≡◌, ℕ, zero, suc, ◌+◌, ◌-◌, ◌≤◌, ◌<◌, max, true, false, cond, ◌⊎◌, inl, inr, ⊎_elim, List, [], ◌∷◌, ◌++◌, length, take, Some, refl, sym, ap, ◌∙◌, subst, arith}
use Rattle.std.specs.Prelude.{slice_get, ◌==◌}
use Rattle.std.proofs.lemmas.Bool.{cases_Bool, cases_lt, eqb-true}
use Rattle.std.proofs.lemmas.Option.{none-some, same_Some}
use Rattle.std.proofs.lemmas.List.{append-nil}
use Rattle.std.proofs.lemmas.List.Elements.{filter-append}
use Rattle.list_core.specs.Moments.{Each}
use Rattle.list_core.specs.Members.{In}
use Rattle.list_core.proofs.Gets.{get_within, get_last, get_In_take, In_get}
use Rattle.list_core.proofs.Members.{In_left, In_right}
use Rattle.list_core.proofs.Moments.{each_take, by_steps}
use Rattle.ids_core.specs.declared.limits.TheConstants.{MOST_RECORDS}
use Rattle.vv_core.specs.declared.stamp.Stamp.{Stamp}
use Rattle.vv_core.specs.Vectors.{at}
use Rattle.tx_core.specs.declared.tx.Record.{Record}
use Rattle.dc_talk.specs.declared.settings.Settings.{Settings}
use Rattle.dc_talk.specs.Records.{count, guard, own}
use Rattle.dc_talk.specs.Laws.{HasStamp, HasNumber, IsInOrder, HasNoGaps, HasDependencies, HasNumbersBelow, HasStampsInOrder}
use Rattle.dc_talk.proofs.Counts.{count_more, guard_more, own_length, stamp_counted}

-- ---- stamps

-- each number within the counts of a centre is there
pub have_stamp : (g : Settings) (A : List Record) → Each (IsInOrder g) A → (e k : ℕ) → 1 ≤ k → k ≤ count e A → HasStamp A e k
have_stamp g A each = by_steps (λ X. (e k : ℕ) → 1 ≤ k → k ≤ count e X → HasStamp X e k) A (λ e k low high. absurd (omega (arith, low, high))) step
  where
    step : (p : ℕ) (r : Record) → slice_get A p ≡ Some r → ((e k : ℕ) → 1 ≤ k → k ≤ count e (take p A) → HasStamp (take p A) e k) → (e k : ℕ) → 1 ≤ k → k ≤ count e (take p A ++ r ∷ []) → HasStamp (take p A ++ r ∷ []) e k
    step p r there rest e k low high = go (cases_lt (count e (take p A)) k) (cases_Bool (r.stamp.centre == e))
      where
        X : List Record
        X = take p A

        go : (count e X < k) ⊎ (k ≤ count e X) → ((r.stamp.centre == e) ≡ true) ⊎ ((r.stamp.centre == e) ≡ false) → HasStamp (X ++ r ∷ []) e k
        go (inr le) _ = let h = rest e k low le in record { item = h.item; there = In_left X (r ∷ []) h.item h.there; stamp_is = h.stamp_is }
        go (inl lt) (inl t) =
            let more : count e (X ++ r ∷ []) ≡ count e X + 1 = count_more e X r ∙ ap (λ b. count e X + cond b 1 0) t in
            let same : r.stamp.centre ≡ e = eqb-true _ _ t in
            let counts : count r.stamp.centre X ≡ count e X = ap (λ e. count e X) same in
            let number = (each.holds p r there).number in
            let seq : r.stamp.seq ≡ k = omega (arith, more, lt, high, counts, number) in
            record { item = r; there = In_right X (r ∷ []) r (inl refl); stamp_is = λ i. record { centre = same i; seq = seq i } }
        go (inl lt) (inr f) =
            let more : count e (X ++ r ∷ []) ≡ count e X + 0 = count_more e X r ∙ ap (λ b. count e X + cond b 1 0) f in
            absurd (omega (arith, more, lt, high))

-- so no count is above 1,000,000
pub count_few : (g : Settings) (A : List Record) → Each (IsInOrder g) A → (e : ℕ) → count e A ≤ MOST_RECORDS
count_few g A each e = go (count e A) refl
  where
    go : (c : ℕ) → count e A ≡ c → count e A ≤ MOST_RECORDS
    go zero is = omega (arith, is)
    go (suc c) is =
        let h = have_stamp g A each e (suc c) (omega arith) (omega (arith, is)) in
        let g = In_get A h.item h.there in
        omega (arith, is, (each.holds g.0 h.item g.1).few, ap (λ (s : Stamp). s.seq) h.stamp_is)

-- a later record of the same centre has a greater number
later_seq : (g : Settings) (A : List Record) → Each (IsInOrder g) A → (q p : ℕ) (r s : Record) → slice_get A q ≡ Some r → slice_get A p ≡ Some s → r.stamp ≡ s.stamp → q < p → ⊥
later_seq g A each q p r s first second same lt =
    let counted = stamp_counted g (take p A) r (each_take (IsInOrder g) A p each) (get_In_take p A q r lt first) in
    let number = (each.holds p s second).number in
    let seq : r.stamp.seq ≡ s.stamp.seq = ap (λ (t : Stamp). t.seq) same in
    let counts : count r.stamp.centre (take p A) ≡ count s.stamp.centre (take p A) = ap (λ (t : Stamp). count t.centre (take p A)) same in
    omega (arith, counted, number, seq, counts)

-- two places with one stamp are one
pub one_place : (g : Settings) (A : List Record) → Each (IsInOrder g) A → (q p : ℕ) (r s : Record) → slice_get A q ≡ Some r → slice_get A p ≡ Some s → r.stamp ≡ s.stamp → q ≡ p
one_place g A each q p r s first second same =
    ⊎_elim
    (λ lt. absurd (later_seq g A each q p r s first second same lt))
    (λ le. ⊎_elim
    (λ lt. absurd (later_seq g A each p q s r second first (sym same) lt))
    (λ ge. omega (arith, le, ge))
    (cases_lt p q))
    (cases_lt q p)

-- so two records with one stamp are one
pub one_record : (g : Settings) (A : List Record) → Each (IsInOrder g) A → (r s : Record) → In r A → In s A → r.stamp ≡ s.stamp → r ≡ s
one_record g A each r s i j same =
    let q = In_get A r i in
    let p = In_get A s j in
    same_Some r s (sym q.1 ∙ (ap (slice_get A) (one_place g A each q.0 p.0 r s q.1 p.1 same) ∙ p.1))

-- ---- the numbers of a client

-- each number up to a client's greatest is there
pub have_number : (g : Settings) (A : List Record) → Each (IsInOrder g) A → (c d : ℕ) → 1 ≤ d → d ≤ guard c A → HasNumber A c d
have_number g A each = by_steps (λ X. (c d : ℕ) → 1 ≤ d → d ≤ guard c X → HasNumber X c d) A (λ c d low high. absurd (omega (arith, low, high))) step
  where
    step : (p : ℕ) (r : Record) → slice_get A p ≡ Some r → ((c d : ℕ) → 1 ≤ d → d ≤ guard c (take p A) → HasNumber (take p A) c d) → (c d : ℕ) → 1 ≤ d → d ≤ guard c (take p A ++ r ∷ []) → HasNumber (take p A ++ r ∷ []) c d
    step p r there rest c d low high = go (cases_lt (guard c (take p A)) d) (cases_Bool (r.tx.dot.client == c))
      where
        X : List Record
        X = take p A

        go : (guard c X < d) ⊎ (d ≤ guard c X) → ((r.tx.dot.client == c) ≡ true) ⊎ ((r.tx.dot.client == c) ≡ false) → HasNumber (X ++ r ∷ []) c d
        go (inr le) _ = let h = rest c d low le in record { item = h.item; there = In_left X (r ∷ []) h.item h.there; client_is = h.client_is; number_is = h.number_is }
        go (inl lt) (inl t) =
            let more : guard c (X ++ r ∷ []) ≡ max (guard c X) r.tx.dot.number = guard_more c X r ∙ ap (λ b. max (guard c X) (cond b r.tx.dot.number 0)) t in
            let same : r.tx.dot.client ≡ c = eqb-true _ _ t in
            let greatest : guard r.tx.dot.client X ≡ guard c X = ap (λ c. guard c X) same in
            let next = (each.holds p r there).next in
            record { item = r; there = In_right X (r ∷ []) r (inl refl); client_is = same; number_is = omega (arith, more, lt, high, greatest, next) }
        go (inl lt) (inr f) =
            let more : guard c (X ++ r ∷ []) ≡ max (guard c X) 0 = guard_more c X r ∙ ap (λ b. max (guard c X) (cond b r.tx.dot.number 0)) f in
            absurd (omega (arith, more, lt, high))

-- ---- own records

-- the record of centre e at a place is there, with the stamp of its number
pub own_at : (g : Settings) (e : ℕ) (A : List Record) → Each (IsInOrder g) A → (j : ℕ) (r : Record) → slice_get (own e A) j ≡ Some r → In r A × (r.stamp ≡ record { centre = e; seq = j + 1 })
own_at g e A each = by_steps (λ X. (j : ℕ) (r : Record) → slice_get (own e X) j ≡ Some r → In r X × (r.stamp ≡ record { centre = e; seq = j + 1 })) A (λ j r there. absurd (none-some r there)) step
  where
    step : (p : ℕ) (s : Record) → slice_get A p ≡ Some s → ((j : ℕ) (r : Record) → slice_get (own e (take p A)) j ≡ Some r → In r (take p A) × (r.stamp ≡ record { centre = e; seq = j + 1 })) → (j : ℕ) (r : Record) → slice_get (own e (take p A ++ s ∷ [])) j ≡ Some r → In r (take p A ++ s ∷ []) × (r.stamp ≡ record { centre = e; seq = j + 1 })
    step p s placed rest j r there = go (cases_Bool (s.stamp.centre == e))
      where
        X : List Record
        X = take p A

        before : slice_get (own e X) j ≡ Some r → In r (X ++ s ∷ []) × (r.stamp ≡ record { centre = e; seq = j + 1 })
        before at = let h = rest j r at in (In_left X (s ∷ []) r h.0, h.1)

        go : ((s.stamp.centre == e) ≡ true) ⊎ ((s.stamp.centre == e) ≡ false) → In r (X ++ s ∷ []) × (r.stamp ≡ record { centre = e; seq = j + 1 })
        go (inl t) =
            let list : own e (X ++ s ∷ []) ≡ own e X ++ s ∷ [] = filter-append (λ (r : Record). r.stamp.centre == e) X (s ∷ []) ∙ ap (λ b. own e X ++ cond b (s ∷ []) []) t in
            ⊎_elim before last (get_last (own e X) s r j (subst (λ l. slice_get l j ≡ Some r) list there))
          where
            last : (s ≡ r) × (j ≡ length (own e X)) → In r (X ++ s ∷ []) × (r.stamp ≡ record { centre = e; seq = j + 1 })
            last l =
                let same : s.stamp.centre ≡ e = eqb-true _ _ t in
                let counts : count s.stamp.centre X ≡ count e X = ap (λ c. count c X) same in
                let long = own_length e X in
                let place = l.1 in
                let number = (each.holds p s placed).number in
                let seq : s.stamp.seq ≡ j + 1 = omega (arith, counts, long, place, number) in
                subst (λ r. In r (X ++ s ∷ []) × (r.stamp ≡ record { centre = e; seq = j + 1 })) l.0 (In_right X (s ∷ []) s (inl refl), λ i. record { centre = same i; seq = seq i })
        go (inr f) =
            let list : own e (X ++ s ∷ []) ≡ own e X ++ [] = filter-append (λ (r : Record). r.stamp.centre == e) X (s ∷ []) ∙ ap (λ b. own e X ++ cond b (s ∷ []) []) f in
            before (subst (λ l. slice_get l j ≡ Some r) (list ∙ append-nil (own e X)) there)

-- and a record with the stamp of a number is the own record of that number
pub own_there : (g : Settings) (A : List Record) → Each (IsInOrder g) A → (k : ℕ) (r : Record) → 1 ≤ k → In r A → r.stamp ≡ record { centre = g.me; seq = k } → slice_get (own g.me A) (k - 1) ≡ Some r
own_there g A each k r low i is =
    let counted = stamp_counted g A r each i in
    let seq : r.stamp.seq ≡ k = ap (λ (s : Stamp). s.seq) is in
    let counts : count r.stamp.centre A ≡ count g.me A = ap (λ (s : Stamp). count s.centre A) is in
    let long = own_length g.me A in
    let s = get_within (own g.me A) (k - 1) (omega (arith, low, counted, seq, counts, long)) in
    let h = own_at g g.me A each (k - 1) s.0 s.1 in
    let back : k - 1 + 1 ≡ k = omega (arith, low) in
    let stamp : s.0.stamp ≡ r.stamp = h.1 ∙ ((λ i. record { centre = g.me; seq = back i }) ∙ sym is) in
    s.1 ∙ ap Some (one_record g A each s.0 r h.0 i stamp)

-- ---- what the law of histories says

module _ (g : Settings) (A : List Record) (each : Each (IsInOrder g) A) where
  -- records of one origin come without a gap
  pub no_gaps : HasNoGaps A
  no_gaps = record { all = have_stamp g A each; once = one_record g A each }

  -- what a record depends on is there before it
  pub dependencies : HasDependencies A
  dependencies = record { holds = λ p r there e k low high. have_stamp g (take p A) (each_take (IsInOrder g) A p each) e k low (omega (arith, high, (each.holds p r there).waited e)) }

  -- a client's numbers come without a gap
  pub numbers_below : HasNumbersBelow A
  numbers_below = have_number g A each

  -- the k-th record of a centre has its stamp k
  pub stamps_in_order : HasStampsInOrder A
  stamps_in_order e k r there = (own_at g e A each k r there).1
