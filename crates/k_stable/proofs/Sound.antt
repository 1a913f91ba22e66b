-- The laws of told tables.
use Rattle.std.proofs.Common.{◌≡◌, ◌≤◌, ◌↔◌, ℕ, zero, suc, ◌-◌, List, [], ◌∷◌, length, Option, sym, ◌∙◌, subst, arith, ⊎_elim}
use Rattle.std.specs.Prelude.{All}
use Rattle.std.proofs.lemmas.Bool.{cases_eq, cases_lt}
use Rattle.std.proofs.lemmas.List.{length-map}
use Rattle.std.proofs.lemmas.List.Elements.{All-nil, All-cons, All-head, All-tail, All-set, All-get_or, All-from_get_or, All-map}
use Rattle.vv_core.specs.Vectors.{at, reach, column, kth_largest, SoundFor, AllSound, least}
use Rattle.vv_core.proofs.Entrywise.{at-meet_of, at_past, at-tabulate}
use Rattle.vv_core.proofs.Reaching.{reach_falls}
use Rattle.vv_core.proofs.Sound.{join_of_sound, meet_of_sound, kth_largest_sound, kth_largest_reached, kth_largest_least}
use Rattle.k_stable.specs.Tables.{Table, IsTable, Learns, told_by, rows_of, stable_of, all_known_of}
use Rattle.k_stable.proofs.Rows.{length-rows_of, rows_of-set, rows_of_even, width_of-rows_of, all_known_is}
use Rattle.k_stable.proofs.Least.{All-least, reach_least, reached_all}

module _ (deps : ℕ → ℕ → Option (List ℕ)) where
  -- the row of each centre stays sound
  told_sound : (old new : Table) (from : ℕ) (vector : List ℕ) → Learns old new from vector → SoundFor deps vector → (i : ℕ) → SoundFor deps (told_by old (suc i)) → SoundFor deps (told_by new (suc i))
  told_sound old new from vector h v i before =
      ⊎_elim
      (λ here. ⊎_elim
      (λ mine. subst (λ t. SoundFor deps (told_by t (suc i))) (sym (h.own mine)) before)
      (λ other. subst (λ j. SoundFor deps (told_by new j)) (sym here) (subst (SoundFor deps) (sym (h.told other)) (join_of_sound deps (told_by old from) vector (subst (λ j. SoundFor deps (told_by old j)) here before) v)))
      (cases_eq from old.me))
      (λ other. subst (SoundFor deps) (sym (h.others (suc i) other)) before)
      (cases_eq (suc i) from)

  pub learn_sound : (old new : Table) (from : ℕ) (vector : List ℕ) → IsTable old → IsTable new → Learns old new from vector → AllSound deps old.rows → SoundFor deps vector → AllSound deps new.rows
  learn_sound old new from vector was is h rows v =
      All-from_get_or (SoundFor deps) new.rows []
      (λ i lt. told_sound old new from vector h v i (All-get_or (SoundFor deps) old.rows i [] (omega (arith, lt, was.count, is.count, h.same.1)) rows))

  rows_sound : (t : Table) (own : List ℕ) → IsTable t → AllSound deps t.rows → SoundFor deps own → AllSound deps (rows_of t own)
  rows_sound t own is rows mine = subst (λ rows. AllSound deps rows) (sym (rows_of-set t own is)) (All-set (SoundFor deps) t.rows (t.me - 1) own mine rows)

  pub stable_sound : (t : Table) (own : List ℕ) → IsTable t → length own ≡ t.n → AllSound deps t.rows → SoundFor deps own → SoundFor deps (stable_of t own)
  stable_sound t own is wide rows mine = meet_of_sound deps (kth_largest t.k (rows_of t own)) own (kth_largest_sound deps t.k (rows_of t own) is.known.0 (rows_of_even t own is wide) (rows_sound t own is rows mine)) mine

  pub all_known_sound : (t : Table) (own : List ℕ) → IsTable t → length own ≡ t.n → AllSound deps t.rows → SoundFor deps own → SoundFor deps (all_known_of t own)
  all_known_sound t own is wide rows mine = subst (SoundFor deps) (all_known_is t own is wide) (kth_largest_sound deps t.n (rows_of t own) (omega (arith, is.centre)) (rows_of_even t own is wide) (rows_sound t own is rows mine))

-- a number within what is stable is reached by K rows
stable_reached : (t : Table) (own : List ℕ) (e m : ℕ) → IsTable t → m ≤ at (stable_of t own) e → (t.k ≤ reach m (column e (rows_of t own))) × (m ≤ at own e)
stable_reached t own e m is le =
    let least' = at-meet_of (kth_largest t.k (rows_of t own)) own e in
    let all = kth_largest_reached t.k e (rows_of t own) (omega (arith, is.known, length-rows_of t own)) in
    let fewer = reach_falls m (at (kth_largest t.k (rows_of t own)) e) (column e (rows_of t own)) (omega (arith, le, least')) in
    (omega (arith, all, fewer), omega (arith, le, least'))

-- what K rows reach, and the own vector, is within it
reached_stable : (t : Table) (own : List ℕ) (e m : ℕ) → IsTable t → length own ≡ t.n → t.k ≤ reach m (column e (rows_of t own)) → m ≤ at own e → m ≤ at (stable_of t own) e
reached_stable t own zero m is wide enough mine = omega (arith, mine, at-meet_of (kth_largest t.k (rows_of t own)) own 0)
reached_stable t own (suc i) m is wide enough mine =
    ⊎_elim
    (λ past. omega (arith, mine, at_past own (suc i) (omega (arith, past, wide))))
    (λ few. omega (arith, mine, at-meet_of (kth_largest t.k (rows_of t own)) own (suc i), kth_largest_least t.k (suc i) m (rows_of t own) is.known.0 (omega arith) (omega (arith, few, width_of-rows_of t own is wide)) enough))
    (cases_lt t.n (suc i))

pub stable_reach : (t : Table) (own : List ℕ) (e m : ℕ) → IsTable t → length own ≡ t.n → (m ≤ at (stable_of t own) e) ↔ ((t.k ≤ reach m (column e (rows_of t own))) × (m ≤ at own e))
stable_reach t own e m is wide = (stable_reached t own e m is, λ h. reached_stable t own e m is wide h.0 h.1)

-- what bounds the entries of the rows bounds the rows there
rows_bound : (e m : ℕ) (rows : List (List ℕ)) → All (λ x. m ≤ x) (column e rows) → All (λ row. m ≤ at row e) rows
rows_bound e m [] all = All-nil (λ row. m ≤ at row e)
rows_bound e m (row ∷ rows) all = All-cons (λ row. m ≤ at row e) row rows (All-head (λ x. m ≤ x) (at row e) (column e rows) all) (rows_bound e m rows (All-tail (λ x. m ≤ x) (at row e) (column e rows) all))

pub all_known_reach : (t : Table) (own : List ℕ) (e m : ℕ) → IsTable t → 1 ≤ e → e ≤ t.n → (m ≤ at (all_known_of t own) e) ↔ All (λ row. m ≤ at row e) (rows_of t own)
all_known_reach t own e m is one few =
    let rows = rows_of t own in
    let there : at (all_known_of t own) e ≡ least (column e rows) = at-tabulate t.n e (λ e. least (column e rows)) one few in
    let count : length (column e rows) ≡ t.n = length-map rows (λ row. at row e) ∙ length-rows_of t own in (
      λ le. rows_bound e m rows (reached_all m (column e rows) (reach_least m (column e rows) (omega (arith, le, there)))),
      λ all. omega (arith, there, All-least m (column e rows) (omega (arith, count, is.known)) (All-map (λ x. m ≤ x) (λ row. at row e) rows all)),
    )
