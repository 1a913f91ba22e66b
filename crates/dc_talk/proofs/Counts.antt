-- Lists of records: how many there are of a centre, a client's greatest number, the greatest rank.
use Rattle.std.proofs.Common.{◌≡◌, ℕ, zero, suc, ◌+◌, ◌≤◌, max, true, false, cond, ◌⊎◌, inl, inr, ⊎_elim, List, [], ◌∷◌, ◌++◌, length, take, drop, refl, sym, ap, ◌∙◌, subst, arith}
use Rattle.std.specs.Prelude.{◌==◌}
use Rattle.std.proofs.lemmas.Bool.{cases_Bool, cases_lt, eqb-true, eq-eqb}
use Rattle.std.proofs.lemmas.List.{take-append-drop}
use Rattle.std.proofs.lemmas.List.Sums.{length-filter, sum_by_push}
use Rattle.list_core.specs.Members.{In}
use Rattle.list_core.specs.Moments.{Each}
use Rattle.list_core.proofs.Gets.{In_get}
use Rattle.list_core.proofs.Moments.{take_one_more}
use Rattle.vv_core.specs.Vectors.{Covers}
use Rattle.vv_core.proofs.Covering.{Covers-tabulate}
use Rattle.vv_core.proofs.Entrywise.{at-tabulate_le, length-tabulate}
use Rattle.vv_core.proofs.Reaching.{count_by-cons}
use Rattle.tx_core.specs.declared.tx.Record.{Record}
use Rattle.dc_talk.specs.declared.settings.Settings.{Settings}
use Rattle.dc_talk.specs.Records.{count, vector, guard, top, own}
use Rattle.dc_talk.specs.Laws.{HasNumber, IsInOrder}

-- ---- how many there are of a centre

-- one record more counts for the centre of its stamp
pub count_more : (e : ℕ) (A : List Record) (r : Record) → count e (A ++ r ∷ []) ≡ count e A + cond (r.stamp.centre == e) 1 0
count_more e A r = sum_by_push (λ r. cond (r.stamp.centre == e) 1 0) A r

-- more records count no less
pub count_front : (e : ℕ) (A Z : List Record) → count e A ≤ count e (A ++ Z)
count_front e [] Z = omega arith
count_front e (r ∷ A) Z = omega (arith, count_by-cons (λ (r : Record). r.stamp.centre == e) r A, count_by-cons (λ (r : Record). r.stamp.centre == e) r (A ++ Z), count_front e A Z)

-- fewer records count no more
pub count_take : (e p : ℕ) (A : List Record) → count e (take p A) ≤ count e A
count_take e p A = subst (λ B. count e (take p A) ≤ count e B) (take-append-drop p A) (count_front e (take p A) (drop p A))

-- the vector of more records covers that of fewer
pub vector_front : (n : ℕ) (A Z : List Record) → Covers (vector n (A ++ Z)) (vector n A)
vector_front n A Z = Covers-tabulate n (λ e. count e (A ++ Z)) (vector n A) (length-tabulate n (λ e. count e A)) (λ e. omega (arith, at-tabulate_le n e (λ e. count e A), count_front e A Z))

-- a centre's own records are as many as it counts
pub own_length : (e : ℕ) (A : List Record) → length (own e A) ≡ count e A
own_length e A = length-filter (λ (r : Record). r.stamp.centre == e) A

-- a stamp that is there is within the counts
pub stamp_counted : (g : Settings) (A : List Record) (r : Record) → Each (IsInOrder g) A → In r A → r.stamp.seq ≤ count r.stamp.centre A
stamp_counted g A r each i =
    let place = In_get A r i in
    let number = (each.holds place.0 r place.1).number in
    let longer : take (suc place.0) A ≡ take place.0 A ++ r ∷ [] = take_one_more A place.0 r place.1 in
    let below = count_take r.stamp.centre (suc place.0) A in
    let here : cond (r.stamp.centre == r.stamp.centre) 1 0 ≡ suc zero = ap (λ b. cond b 1 0) (eq-eqb r.stamp.centre r.stamp.centre refl) in
    let more : count r.stamp.centre (take (suc place.0) A) ≡ count r.stamp.centre (take place.0 A) + cond (r.stamp.centre == r.stamp.centre) 1 0 = ap (count r.stamp.centre) longer ∙ count_more r.stamp.centre (take place.0 A) r in
    omega (arith, number, below, here, more)

-- ---- a client's greatest number

-- with one record more it is that record's number, where this is the client's and greater
pub guard_more : (c : ℕ) (A : List Record) (r : Record) → guard c (A ++ r ∷ []) ≡ max (guard c A) (cond (r.tx.dot.client == c) r.tx.dot.number 0)
guard_more c [] r = omega arith
guard_more c (q ∷ A) r =
    let rest = guard_more c A r in
    let m = cond (q.tx.dot.client == c) q.tx.dot.number 0 in
    let l = cond (r.tx.dot.client == c) r.tx.dot.number 0 in
    omega (arith, rest)

-- of more records it is no less
pub guard_front : (c : ℕ) (A Z : List Record) → guard c A ≤ guard c (A ++ Z)
guard_front c [] Z = omega arith
guard_front c (r ∷ A) Z = omega (arith, guard_front c A Z)

-- a record's number is at most the greatest of its client
pub in_guard : (A : List Record) (r : Record) → In r A → r.tx.dot.number ≤ guard r.tx.dot.client A
in_guard [] r i = absurd i
in_guard (q ∷ A) r (inl same) =
    let number : r.tx.dot.number ≡ q.tx.dot.number = ap (λ r. r.tx.dot.number) same in
    let client : (q.tx.dot.client == r.tx.dot.client) ≡ true = eq-eqb _ _ (sym (ap (λ r. r.tx.dot.client) same)) in
    let value : cond (q.tx.dot.client == r.tx.dot.client) q.tx.dot.number 0 ≡ q.tx.dot.number = ap (λ b. cond b q.tx.dot.number 0) client in
    omega (arith, number, value)
in_guard (q ∷ A) r (inr i) = let rest = in_guard A r i in omega (arith, rest)

-- a number that is there is there among more records
number_later : (q : Record) (A : List Record) (client number : ℕ) → HasNumber A client number → HasNumber (q ∷ A) client number
number_later q A client number h = record { item = h.item; there = inr h.there; client_is = h.client_is; number_is = h.number_is }

-- the greatest number is that of a record, where it is not 0
pub guard_in : (client : ℕ) (A : List Record) (number : ℕ) → number ≡ guard client A → 1 ≤ number → HasNumber A client number
guard_in client [] number is low = absurd (omega (arith, is, low))
guard_in client (q ∷ A) number is low = go (λ same. guard_in client A number same low) (cases_Bool (q.tx.dot.client == client))
  where
    go : (number ≡ guard client A → HasNumber A client number) → ((q.tx.dot.client == client) ≡ true) ⊎ ((q.tx.dot.client == client) ≡ false) → HasNumber (q ∷ A) client number
    go rest (inl t) =
        let value : cond (q.tx.dot.client == client) q.tx.dot.number 0 ≡ q.tx.dot.number = ap (λ b. cond b q.tx.dot.number 0) t in
        ⊎_elim
        (λ lt. number_later q A client number (rest (omega (arith, is, value, lt))))
        (λ le. record { item = q; there = inl refl; client_is = eqb-true _ _ t; number_is = omega (arith, is, value, le) })
        (cases_lt q.tx.dot.number (guard client A))
    go rest (inr f) =
        let value : cond (q.tx.dot.client == client) q.tx.dot.number 0 ≡ 0 = ap (λ b. cond b q.tx.dot.number 0) f in
        number_later q A client number (rest (omega (arith, is, value)))

-- ---- the greatest rank

-- a record's rank is at most the greatest
pub in_top : (A : List Record) (r : Record) → In r A → r.tx.rank ≤ top A
in_top [] r i = absurd i
in_top (a ∷ A) r (inl e) = omega (arith, ap (λ (r : Record). r.tx.rank) e)
in_top (a ∷ A) r (inr i) = omega (arith, in_top A r i)

-- a bound of each rank is one of the greatest
pub top_bounded : (most : ℕ) (A : List Record) → ((r : Record) → In r A → r.tx.rank ≤ most) → top A ≤ most
top_bounded most [] each = omega arith
top_bounded most (r ∷ A) each = omega (arith, each r (inl refl), top_bounded most A (λ q i. each q (inr i)))
