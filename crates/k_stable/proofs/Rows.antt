-- The rows of all centres, one for each, and as wide as there are centres.
use Rattle.std.proofs.Common.{◌≡◌, ◌≤◌, ◌<◌, ℕ, suc, ◌-◌, ◌==◌, cond, List, [], ◌∷◌, length, get_or, set, take, sym, ap, ◌∙◌, subst, arith, ⊎_elim, get_or-set_same, get_or-set_other, eq-eqb, ne_eqb}
use Rattle.std.specs.Prelude.{All}
use Rattle.std.proofs.Math.Seq.{take-set-lt}
use Rattle.std.proofs.lemmas.Bool.{cases_eq}
use Rattle.std.proofs.lemmas.List.{length-set, same_lists, get_or_default}
use Rattle.std.proofs.lemmas.List.Elements.{All-head, All-set}
use Rattle.std.proofs.lemmas.List.FromFn.{get_or-map-range_with_len, length-map-range_with_len}
use Rattle.vv_core.specs.Vectors.{width_of, kth_largest}
use Rattle.k_stable.specs.Tables.{Table, IsTable, told_by, rows_of, all_known_of}
use Rattle.k_stable.proofs.Least.{kth_largest-least}

-- there is a row for each centre
pub length-rows_of : (t : Table) (own : List ℕ) → length (rows_of t own) ≡ t.n
length-rows_of t own = length-map-range_with_len (λ j. cond (j == t.me) own (told_by t j)) 1 t.n

-- they are the told rows, with the own vector written at the own place
pub rows_of-set : (t : Table) (own : List ℕ) → IsTable t → rows_of t own ≡ set t.rows (t.me - 1) own
rows_of-set t own is = same_lists (rows_of t own) (set t.rows (t.me - 1) own) (length-rows_of t own ∙ sym (length-set t.rows (t.me - 1) own ∙ is.count)) each
  where
    row : ℕ → List ℕ
    row j = cond (j == t.me) own (told_by t j)

    each : (i : ℕ) (d : List ℕ) → i < length (rows_of t own) → get_or (rows_of t own) i d ≡ get_or (set t.rows (t.me - 1) own) i d
    each i d lt =
        let few : i < t.n = omega (arith, lt, length-rows_of t own) in
        let in' : i < length t.rows = omega (arith, few, is.count) in
        get_or-map-range_with_len (λ j. cond (j == t.me) own (told_by t j)) 1 t.n i (suc i) d few (omega arith)
        ∙ ⊎_elim
        (λ here. ap (λ b. cond b own (told_by t (suc i))) (eq-eqb (suc i) t.me here) ∙ sym (ap (λ p. get_or (set t.rows p own) i d) (place here) ∙ get_or-set_same t.rows i own d in'))
        (λ other. ap (λ b. cond b own (told_by t (suc i))) (ne_eqb (suc i) t.me other) ∙ (get_or_default t.rows i [] d in' ∙ sym (get_or-set_other t.rows (t.me - 1) i own d (λ same. other (omega (arith, same, is.centre.0))))))
        (cases_eq (suc i) t.me)
      where
        place : suc i ≡ t.me → t.me - 1 ≡ i
        place here = omega (arith, here)

-- all rows of a width: the first has it
width_of-all : (n : ℕ) (rows : List (List ℕ)) → 1 ≤ length rows → All (λ row. length row ≡ n) rows → width_of rows ≡ n
width_of-all n [] some all = absurd (omega arith)
width_of-all n (row ∷ rows) some all = All-head (λ row. length row ≡ n) row rows all

-- each row is as wide as there are centres
pub rows_of_wide : (t : Table) (own : List ℕ) → IsTable t → length own ≡ t.n → All (λ row. length row ≡ t.n) (rows_of t own)
rows_of_wide t own is wide = subst (λ rows. All (λ row. length row ≡ t.n) rows) (sym (rows_of-set t own is)) (All-set (λ row. length row ≡ t.n) t.rows (t.me - 1) own wide is.wide)

-- so is the first
pub width_of-rows_of : (t : Table) (own : List ℕ) → IsTable t → length own ≡ t.n → width_of (rows_of t own) ≡ t.n
width_of-rows_of t own is wide = width_of-all t.n (rows_of t own) (omega (arith, length-rows_of t own, is.known)) (rows_of_wide t own is wide)

-- all are as wide as the first
pub rows_of_even : (t : Table) (own : List ℕ) → IsTable t → length own ≡ t.n → All (λ row. length row ≡ width_of (rows_of t own)) (rows_of t own)
rows_of_even t own is wide = subst (λ w. All (λ row. length row ≡ w) (rows_of t own)) (sym (width_of-rows_of t own is wide)) (rows_of_wide t own is wide)

-- the code writes them in a place for all centres that there may be
pub rows_placed : (t : Table) (own : List ℕ) (places : List (List ℕ)) (i : ℕ) → t.rows ≡ take t.n places → IsTable t → i ≡ t.me - 1 → take t.n (set places i own) ≡ rows_of t own
rows_placed t own places i shown is place =
    take-set-lt t.n places i own (omega (arith, is.centre, place))
    ∙ (ap (λ rows. set rows i own) (sym shown)
    ∙ (ap (λ i. set t.rows i own) place ∙ sym (rows_of-set t own is)))

-- rows that stand first in a place for more are all as wide as the first of them
pub even_first : (t : Table) (own : List ℕ) (n m : ℕ) (places : List (List ℕ)) → IsTable t → length own ≡ t.n → n ≡ m → m ≡ t.n → take t.n places ≡ rows_of t own → All (λ row. length row ≡ width_of (take n places)) (take n places)
even_first t own n m places is wide same count placed =
    let all : take n places ≡ rows_of t own = ap (λ n. take n places) (same ∙ count) ∙ placed in
    subst (λ (rows : List (List ℕ)). All (λ row. length row ≡ width_of rows) rows) (sym all) (rows_of_even t own is wide)

-- the last of their K-th largest is the least
pub all_known_is : (t : Table) (own : List ℕ) → IsTable t → length own ≡ t.n → kth_largest t.n (rows_of t own) ≡ all_known_of t own
all_known_is t own is wide = kth_largest-least t.n (rows_of t own) (omega (arith, is.known)) (length-rows_of t own) (width_of-rows_of t own is wide)
