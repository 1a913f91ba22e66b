-- What each definition on vectors is at each centre, and how many entries it has.
use Rattle.std.proofs.Common.{◌≡◌, ◌≢◌, ◌≤◌, ◌<◌, ℕ, zero, suc, ◌+◌, add-one, set, get_or-set_same, get_or-set_other, max, min, Bool, true, false, cond, List, [], ◌∷◌, length, get_or, map, refl, sym, ap, ◌∙◌, arith, ⊎_elim}
use Rattle.std.proofs.lemmas.List.{length-set}
use Rattle.std.specs.Prelude.{if◌then◌else◌, ◌==◌}
use Rattle.std.proofs.Math.ListN.{get_or-eq_default}
use Rattle.std.proofs.lemmas.Bool.{cases_lt, cases_eq, eq-eqb, ne_eqb}
use Rattle.std.proofs.lemmas.Grind.{same_number_lists}
use Rattle.std.proofs.lemmas.List.FromFn.{get_or-map-range_with_len, length-map-range_with_len}
use Rattle.vv_core.specs.declared.stamp.Stamp.{Stamp}
use Rattle.vv_core.specs.Vectors.{at, zeros, centres, join_of, meet_of, tabulate, only, raised, width_of, kth_largest}

-- ---- how many entries

-- as many zeros as are wanted
pub length-zeros : (n : ℕ) → length (zeros n) ≡ n
length-zeros zero = refl
length-zeros (suc n) = ap suc (length-zeros n)

-- a join is as wide as the wider side
pub length-join_of : (v w : List ℕ) → length (join_of v w) ≡ max (length v) (length w)
length-join_of [] w = omega arith
length-join_of (x ∷ v) [] = omega arith
length-join_of (x ∷ v) (y ∷ w) = omega (arith, length-join_of v w)

-- a meet is as wide as the narrower side
pub length-meet_of : (v w : List ℕ) → length (meet_of v w) ≡ min (length v) (length w)
length-meet_of [] w = omega arith
length-meet_of (x ∷ v) [] = omega arith
length-meet_of (x ∷ v) (y ∷ w) = omega (arith, length-meet_of v w)

-- a vector of values has as many entries as are wanted
pub length-tabulate : (n : ℕ) (f : ℕ → ℕ) → length (tabulate n f) ≡ n
length-tabulate n f = length-map-range_with_len f 1 n

-- so has the vector of one stamp
pub length-only : (n : ℕ) (s : Stamp) → length (only n s) ≡ n
length-only n s = length-tabulate n _

-- a join with one stamp is as wide as the vector
pub length-raised : (v : List ℕ) (s : Stamp) → length (raised v s) ≡ length v
length-raised v s = omega (arith, length-join_of v (only (length v) s), length-only (length v) s)

-- the K-th largest is as wide as the first row
pub length-kth_largest : (k : ℕ) (rows : List (List ℕ)) → length (kth_largest k rows) ≡ width_of rows
length-kth_largest k rows = length-tabulate (width_of rows) _

-- rows that are all of one width
pub width_of-rows : (row : ℕ → List ℕ) (n wide : ℕ) → 1 ≤ n → ((j : ℕ) → length (row j) ≡ wide) → width_of (map row (centres n)) ≡ wide
width_of-rows row zero wide low even = absurd (omega (arith, low))
width_of-rows row (suc n) wide low even = even 1

-- ---- each entry

-- a join has the greater entry at each place, counted from 0
pub get_or-join_of : (v w : List ℕ) (i : ℕ) → get_or (join_of v w) i 0 ≡ max (get_or v i 0) (get_or w i 0)
get_or-join_of [] w i = omega arith
get_or-join_of (x ∷ v) [] i = omega arith
get_or-join_of (x ∷ v) (y ∷ w) zero = refl
get_or-join_of (x ∷ v) (y ∷ w) (suc i) = get_or-join_of v w i

-- a meet has the lesser entry at each place
pub get_or-meet_of : (v w : List ℕ) (i : ℕ) → get_or (meet_of v w) i 0 ≡ min (get_or v i 0) (get_or w i 0)
get_or-meet_of [] w i = omega arith
get_or-meet_of (x ∷ v) [] i = omega arith
get_or-meet_of (x ∷ v) (y ∷ w) zero = refl
get_or-meet_of (x ∷ v) (y ∷ w) (suc i) = get_or-meet_of v w i

-- a join has the greater entry at each centre
pub at-join_of : (v w : List ℕ) (e : ℕ) → at (join_of v w) e ≡ max (at v e) (at w e)
at-join_of v w zero = refl
at-join_of v w (suc e) = get_or-join_of v w e

-- a meet has the lesser entry at each centre
pub at-meet_of : (v w : List ℕ) (e : ℕ) → at (meet_of v w) e ≡ min (at v e) (at w e)
at-meet_of v w zero = refl
at-meet_of v w (suc e) = get_or-meet_of v w e

-- there is no entry past the last
pub at_past : (v : List ℕ) (e : ℕ) → length v < e → at v e ≡ 0
at_past v zero past = refl
at_past v (suc e) past = get_or-eq_default v 0 (omega arith)

-- each entry of zeros is 0
pub at-zeros : (n e : ℕ) → at (zeros n) e ≡ 0
at-zeros n zero = refl
at-zeros n (suc e) = each n e
  where
    each : (n i : ℕ) → get_or (zeros n) i 0 ≡ 0
    each zero i = refl
    each (suc n) zero = refl
    each (suc n) (suc i) = each n i

-- a vector of values has the value of each centre
pub at-tabulate : (n e : ℕ) (f : ℕ → ℕ) → 1 ≤ e → e ≤ n → at (tabulate n f) e ≡ f e
at-tabulate n zero f one few = absurd (omega arith)
at-tabulate n (suc e) f one few = get_or-map-range_with_len f 1 n e (suc e) 0 (omega arith) (omega arith)

-- and 0 past the last
pub at-tabulate_past : (n e : ℕ) (f : ℕ → ℕ) → n < e → at (tabulate n f) e ≡ 0
at-tabulate_past n e f past = at_past (tabulate n f) e (omega (arith, length-tabulate n f))

-- so no entry of it is above the value
pub at-tabulate_le : (n e : ℕ) (f : ℕ → ℕ) → at (tabulate n f) e ≤ f e
at-tabulate_le n zero f = omega arith
at-tabulate_le n (suc e) f =
    ⊎_elim
    (λ past. omega (arith, at-tabulate_past n (suc e) f past))
    (λ few. omega (arith, at-tabulate n (suc e) f (omega arith) few))
    (cases_lt n (suc e))

-- ---- when two vectors are one

-- vectors of one width with the same entries are one
pub same_vectors : (v w : List ℕ) → length v ≡ length w → ((e : ℕ) → 1 ≤ e → e ≤ length v → at v e ≡ at w e) → v ≡ w
same_vectors v w len same = same_number_lists v w len (λ i lt. same (suc i) (omega arith) (omega arith))

-- vectors of the same values are one
pub same_tabulate : (n : ℕ) (f g : ℕ → ℕ) → ((e : ℕ) → 1 ≤ e → e ≤ n → f e ≡ g e) → tabulate n f ≡ tabulate n g
same_tabulate n f g same =
    let len = length-tabulate n f in
    same_vectors (tabulate n f) (tabulate n g) (len ∙ sym (length-tabulate n g)) (λ e one few. at-tabulate n e f one (omega (arith, len)) ∙ (same e one (omega (arith, len)) ∙ sym (at-tabulate n e g one (omega (arith, len)))))

-- a list of n numbers is the vector of what stands at each centre
pub is_tabulate : (v : List ℕ) (n : ℕ) (f : ℕ → ℕ) → length v ≡ n → ((e : ℕ) → 1 ≤ e → e ≤ n → at v e ≡ f e) → v ≡ tabulate n f
is_tabulate v n f len same = same_vectors v (tabulate n f) (len ∙ sym (length-tabulate n f)) (λ e one few. same e one (omega (arith, len)) ∙ sym (at-tabulate n e f one (omega (arith, len))))

-- the same by place, counted from 0
pub is_tabulate_places : (v : List ℕ) (n : ℕ) (f : ℕ → ℕ) → length v ≡ n → ((i : ℕ) → i < n → get_or v i 0 ≡ f (i + 1)) → v ≡ tabulate n f
is_tabulate_places v n f len same = is_tabulate v n f len each
  where
    each : (e : ℕ) → 1 ≤ e → e ≤ n → at v e ≡ f e
    each zero one few = absurd (omega arith)
    each (suc i) one few = same i few ∙ ap f (add-one i)

-- a vector with the greater entry at each place is the join
pub is_join_of : (u v w : List ℕ) → length u ≡ length v → length u ≡ length w → ((i : ℕ) → i < length u → get_or u i 0 ≡ max (get_or v i 0) (get_or w i 0)) → u ≡ join_of v w
is_join_of u v w left right same = same_number_lists u (join_of v w) (omega (arith, length-join_of v w)) (λ i lt. same i lt ∙ sym (get_or-join_of v w i))

-- a vector with the lesser entry at each place is the meet
pub is_meet_of : (u v w : List ℕ) → length u ≡ length v → length u ≡ length w → ((i : ℕ) → i < length u → get_or u i 0 ≡ min (get_or v i 0) (get_or w i 0)) → u ≡ meet_of v w
is_meet_of u v w left right same = same_number_lists u (meet_of v w) (omega (arith, length-meet_of v w)) (λ i lt. same i lt ∙ sym (get_or-meet_of v w i))

-- the vector of a vector's entries is that vector
pub tabulate-at : (v : List ℕ) → tabulate (length v) (at v) ≡ v
tabulate-at v = sym (is_tabulate v (length v) (at v) refl (λ e one few. refl))

-- zeros are the vector of the value 0
pub zeros-tabulate : (n : ℕ) → zeros n ≡ tabulate n (λ e. 0)
zeros-tabulate n = is_tabulate (zeros n) n (λ e. 0) (length-zeros n) (λ e one few. at-zeros n e)

-- a join of vectors of values is that of the greater values
pub join_of-tabulate : (n : ℕ) (f g : ℕ → ℕ) → join_of (tabulate n f) (tabulate n g) ≡ tabulate n (λ e. max (f e) (g e))
join_of-tabulate n f g =
    is_tabulate (join_of (tabulate n f) (tabulate n g)) n (λ e. max (f e) (g e))
    (omega (arith, length-join_of (tabulate n f) (tabulate n g), length-tabulate n f, length-tabulate n g))
    (λ e one few. omega (arith, at-join_of (tabulate n f) (tabulate n g) e, at-tabulate n e f one few, at-tabulate n e g one few))

-- a meet of vectors of values is that of the lesser values
pub meet_of-tabulate : (n : ℕ) (f g : ℕ → ℕ) → meet_of (tabulate n f) (tabulate n g) ≡ tabulate n (λ e. min (f e) (g e))
meet_of-tabulate n f g =
    is_tabulate (meet_of (tabulate n f) (tabulate n g)) n (λ e. min (f e) (g e))
    (omega (arith, length-meet_of (tabulate n f) (tabulate n g), length-tabulate n f, length-tabulate n g))
    (λ e one few. omega (arith, at-meet_of (tabulate n f) (tabulate n g) e, at-tabulate n e f one few, at-tabulate n e g one few))

-- ---- the join with one stamp

-- the vector of one stamp has its number at its centre, and 0 elsewhere
pub at-only : (n e : ℕ) (s : Stamp) → 1 ≤ e → e ≤ n → at (only n s) e ≡ (if e == s.centre then s.seq else 0)
at-only n e s one few = at-tabulate n e (λ e. if e == s.centre then s.seq else 0) one few

-- so 0 at another centre
pub at-only_other : (n e : ℕ) (s : Stamp) → e ≢ s.centre → at (only n s) e ≡ 0
at-only_other n e s ne =
    let zero_there : (if e == s.centre then s.seq else 0) ≡ 0 = ap (λ b. cond b s.seq 0) (ne_eqb e s.centre ne) in
    omega (arith, zero_there, at-tabulate_le n e (λ e. if e == s.centre then s.seq else 0))

-- and the number at its own
pub at-only_same : (n : ℕ) (s : Stamp) → 1 ≤ s.centre → s.centre ≤ n → at (only n s) s.centre ≡ s.seq
at-only_same n s one few = at-only n s.centre s one few ∙ ap (λ b. cond b s.seq 0) (eq-eqb s.centre s.centre refl)

-- a join with one stamp keeps the entries of the other centres
pub at-raised_other : (v : List ℕ) (s : Stamp) (e : ℕ) → e ≢ s.centre → at (raised v s) e ≡ at v e
at-raised_other v s e ne = omega (arith, at-join_of v (only (length v) s) e, at-only_other (length v) e s ne)

-- and has at least the number at the stamp's own
pub at-raised_same : (v : List ℕ) (s : Stamp) → 1 ≤ s.centre → s.centre ≤ length v → at (raised v s) s.centre ≡ max (at v s.centre) s.seq
at-raised_same v s one few = omega (arith, at-join_of v (only (length v) s) s.centre, at-only_same (length v) s one few)

-- both at once
pub at-raised : (v : List ℕ) (s : Stamp) (e : ℕ) → 1 ≤ e → e ≤ length v → at (raised v s) e ≡ (if e == s.centre then max (at v e) s.seq else at v e)
at-raised v s e one few = by_test (e == s.centre) (at-only (length v) e s one few)
  where
    by_test : (b : Bool) → at (only (length v) s) e ≡ cond b s.seq 0 → at (raised v s) e ≡ cond b (max (at v e) s.seq) (at v e)
    by_test true is = omega (arith, at-join_of v (only (length v) s) e, is)
    by_test false is = omega (arith, at-join_of v (only (length v) s) e, is)

-- a join of a vector of values with one stamp, as a vector of values
pub raised-tabulate : (n : ℕ) (f : ℕ → ℕ) (s : Stamp) → raised (tabulate n f) s ≡ tabulate n (λ e. if e == s.centre then max (f e) s.seq else f e)
raised-tabulate n f s =
    let len = length-tabulate n f in
    is_tabulate (raised (tabulate n f) s) n (λ e. if e == s.centre then max (f e) s.seq else f e)
    (length-raised (tabulate n f) s ∙ len)
    (λ e one few. at-raised (tabulate n f) s e one (omega (arith, len)) ∙ ap (λ (x : ℕ). if e == s.centre then max x s.seq else x) (at-tabulate n e f one few))

-- one entry that becomes at least the stamp's number
pub raised_by_set : (v : List ℕ) (s : Stamp) (i : ℕ) → i + 1 ≡ s.centre → i < length v → set v i (max (get_or v i 0) s.seq) ≡ raised v s
raised_by_set v s i there lt =
    same_vectors (set v i x) (raised v s) (length-set v i x ∙ sym (length-raised v s)) each
  where
    x : ℕ
    x = max (get_or v i 0) s.seq

    at_i : suc i ≡ s.centre → get_or (set v i x) i 0 ≡ at (raised v s) (suc i)
    at_i is =
        let now : at (raised v s) s.centre ≡ max (at v s.centre) s.seq = at-raised_same v s (omega (arith, is)) (omega (arith, is, lt)) in
        get_or-set_same v i x 0 lt ∙ sym (ap (at (raised v s)) is ∙ (now ∙ ap (λ e. max (at v e) s.seq) (sym is)))

    each : (e : ℕ) → 1 ≤ e → e ≤ length (set v i x) → at (set v i x) e ≡ at (raised v s) e
    each zero one few = absurd (omega arith)
    each (suc j) one few =
        ⊎_elim
        (λ same. ap (λ k. get_or (set v i x) k 0) same ∙ (at_i (omega (arith, there)) ∙ ap (λ k. at (raised v s) (suc k)) (sym same)))
        (λ other. get_or-set_other v i j x 0 other ∙ sym (at-raised_other v s (suc j) (λ is. other (omega (arith, is, there)))))
        (cases_eq j i)
