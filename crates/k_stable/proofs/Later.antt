-- Tables after more was learned.
use Rattle.std.proofs.Common.{◌≡◌, ◌≤◌, ℕ, ◌-◌, ◌==◌, ⊎_elim, Bool, true, false, cond, leb, List, [], ◌∷◌, length, get_or, map, refl, sym, ap, ◌∙◌, subst, arith, get_or-set_same}
use Rattle.std.specs.Prelude.{All}
use Rattle.std.proofs.lemmas.Bool.{cases_eq, leb-true, le-leb}
use Rattle.std.proofs.lemmas.List.Elements.{All-get_or}
use Rattle.vv_core.specs.Vectors.{at, reach, column, least, centres, tabulate, Covers}
use Rattle.vv_core.proofs.Covering.{Covers_refl, Covers-join_left, Covers-tabulate}
use Rattle.vv_core.proofs.Entrywise.{at-tabulate_le, length-tabulate}
use Rattle.vv_core.proofs.Reaching.{count_by-cons}
use Rattle.k_stable.specs.Tables.{Table, IsTable, IsLater, Learns, told_by, rows_of, stable_of, all_known_of}
use Rattle.k_stable.proofs.Rows.{length-rows_of, rows_of-set}
use Rattle.k_stable.proofs.Sound.{stable_reach, all_known_reach}

-- a table that learned has no less
pub learn_later : (old new : Table) (from : ℕ) (vector : List ℕ) → Learns old new from vector → IsLater old new
learn_later old new from vector h = record { me = h.same.0; n = h.same.1; k = h.same.2; rows = rows }
  where
    rows : (j : ℕ) → Covers (told_by new j) (told_by old j)
    rows j =
        ⊎_elim
        (λ mine. subst (λ t. Covers (told_by t j) (told_by old j)) (sym (h.own mine)) (Covers_refl (told_by old j)))
        (λ other. ⊎_elim
        (λ here. subst (λ j. Covers (told_by new j) (told_by old j)) (sym here) (subst (λ row. Covers row (told_by old from)) (sym (h.told other)) (Covers-join_left (told_by old from) vector)))
        (λ else. subst (λ row. Covers row (told_by old j)) (sym (h.others j else)) (Covers_refl (told_by old j)))
        (cases_eq j from))
        (cases_eq from old.me)

module _ (old new : Table) (own later : List ℕ) (h : IsLater old new) (more : Covers later own) where
  -- the row of a centre, before and after
  abbrev before : ℕ → List ℕ
  before j = cond (j == old.me) own (told_by old j)

  abbrev after : ℕ → List ℕ
  after j = cond (j == old.me) later (told_by new j)

  row_grows : (j e : ℕ) → at (before j) e ≤ at (after j) e
  row_grows j e = go (j == old.me)
    where
      go : (mine : Bool) → at (cond mine own (told_by old j)) e ≤ at (cond mine later (told_by new j)) e
      go true = more.holds e
      go false = (h.rows j).holds e

  rows_after : rows_of new later ≡ map (λ j. cond (j == old.me) later (told_by new j)) (centres old.n)
  rows_after = ap (λ (me : ℕ). map (λ j. cond (j == me) later (told_by new j)) (centres new.n)) h.me ∙ ap (λ (n : ℕ). map (λ j. cond (j == old.me) later (told_by new j)) (centres n)) h.n

  -- as many rows reach a number at a centre
  reach_grows : (m e : ℕ) (js : List ℕ) → reach m (column e (map (λ j. cond (j == old.me) own (told_by old j)) js)) ≤ reach m (column e (map (λ j. cond (j == old.me) later (told_by new j)) js))
  reach_grows m e [] = omega arith
  reach_grows m e (j ∷ js) =
      let rest = reach_grows m e js in
      let first = count_by-cons (leb m) (at (before j) e) (column e (map (λ j. cond (j == old.me) own (told_by old j)) js)) in
      let then = count_by-cons (leb m) (at (after j) e) (column e (map (λ j. cond (j == old.me) later (told_by new j)) js)) in
      let one = test (at (before j) e) (at (after j) e) (row_grows j e) in
      omega (arith, rest, first, then, one)
    where
      test : (x y : ℕ) → x ≤ y → cond (leb m x) 1 0 ≤ cond (leb m y) 1 0
      test x y le = go (leb m x) refl
        where
          go : (b : Bool) → leb m x ≡ b → cond b 1 0 ≤ cond (leb m y) 1 0
          go false is = omega arith
          go true is = subst (λ b. 1 ≤ cond b 1 0) (sym (le-leb m y (omega (arith, le, leb-true m x is)))) (omega arith)

  -- the least entry at a centre is no less
  least_grows : (e : ℕ) (js : List ℕ) → least (column e (map (λ j. cond (j == old.me) own (told_by old j)) js)) ≤ least (column e (map (λ j. cond (j == old.me) later (told_by new j)) js))
  least_grows e [] = omega arith
  least_grows e (j ∷ []) = row_grows j e
  least_grows e (j ∷ i ∷ js) = let rest = least_grows e (i ∷ js) in let one = row_grows j e in omega (arith, rest, one)

  pub stable_grows : IsTable old → IsTable new → length own ≡ old.n → length later ≡ new.n → Covers (stable_of new later) (stable_of old own)
  stable_grows was is wide long = record { holds = holds }
    where
      holds : (e : ℕ) → at (stable_of old own) e ≤ at (stable_of new later) e
      holds e =
          let m = at (stable_of old own) e in
          let had = (stable_reach old own e m was wide).0 (omega arith) in
          let enough : reach m (column e (rows_of old own)) ≤ reach m (column e (rows_of new later)) = subst (λ rows. reach m (column e (rows_of old own)) ≤ reach m (column e rows)) (sym rows_after) (reach_grows m e (centres old.n)) in
          (stable_reach new later e m is long).1 (omega (arith, had.0, enough, h.k), omega (arith, had.1, more.holds e))

  pub all_known_grows : Covers (all_known_of new later) (all_known_of old own)
  all_known_grows =
      subst (λ rows. Covers (tabulate new.n (λ e. least (column e rows))) (all_known_of old own)) (sym rows_after)
      (Covers-tabulate new.n (λ e. least (column e (map (λ j. cond (j == old.me) later (told_by new j)) (centres old.n)))) (all_known_of old own) (length-tabulate old.n (λ e. least (column e (rows_of old own))) ∙ sym h.n)
      (λ e. let low = at-tabulate_le old.n e (λ e. least (column e (rows_of old own))) in let grows = least_grows e (centres old.n) in omega (arith, low, grows)))

-- what all know of a centre's own records is within its own vector
pub all_known_own : (t : Table) (own : List ℕ) → IsTable t → at (all_known_of t own) t.me ≤ at own t.me
all_known_own t own is =
    let m = at (all_known_of t own) t.me in
    let all : All (λ row. m ≤ at row t.me) (rows_of t own) = (all_known_reach t own t.me m is is.centre.0 is.centre.1).0 (omega arith) in
    let here : t.me - 1 ≤ t.n - 1 = let low = is.centre.0 in let high = is.centre.1 in omega (arith, low, high) in
    let row : get_or (rows_of t own) (t.me - 1) [] ≡ own = ap (λ rows. get_or rows (t.me - 1) []) (rows_of-set t own is) ∙ get_or-set_same t.rows (t.me - 1) own [] (let low = is.centre.0 in let high = is.centre.1 in let count = is.count in omega (arith, low, high, count)) in
    subst (λ row. m ≤ at row t.me) row (All-get_or (λ row. m ≤ at row t.me) (rows_of t own) (t.me - 1) [] (let count = length-rows_of t own in let low = is.centre.0 in let high = is.centre.1 in omega (arith, count, low, high)) all)
