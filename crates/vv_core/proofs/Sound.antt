-- Joins, meets and K-th largest of vectors that are sound for a table are sound for it.
use Rattle.std.proofs.Common.{◌≡◌, ◌≤◌, ◌<◌, ℕ, zero, suc, true, leb, List, length, Option, Some, refl, arith, ⊎_elim}
use Rattle.std.specs.Prelude.{All, count_by}
use Rattle.std.proofs.lemmas.List.{length-map}
use Rattle.std.proofs.lemmas.Bool.{cases_lt, leb-true, le-leb}
use Rattle.vv_core.specs.Vectors.{at, zeros, join_of, meet_of, kth_of, reach, column, width_of, kth_largest, SoundFor, AllSound}
use Rattle.vv_core.proofs.Entrywise.{at-zeros, at-join_of, at-meet_of, at_past, at-tabulate, at-tabulate_le}
use Rattle.vv_core.proofs.Covering.{Covers_trans, Covers-join_left, Covers-join_right, Covers_meet}
use Rattle.list_core.specs.Members.{In}
use Rattle.list_core.proofs.Members.{All-In}
use Rattle.vv_core.proofs.Reaching.{count_by-map, count_by_grows, counted, kth_of_reached, kth_of_reached_some, reached_kth_of}

-- zeros are sound for every table
pub zeros_sound : (table : ℕ → ℕ → Option (List ℕ)) (n : ℕ) → SoundFor table (zeros n)
zeros_sound table n = record { holds = λ e k w one low here. absurd (omega (arith, one, low, at-zeros n e)) }

-- a join of sound vectors is sound
pub join_of_sound : (table : ℕ → ℕ → Option (List ℕ)) (v w : List ℕ) → SoundFor table v → SoundFor table w → SoundFor table (join_of v w)
join_of_sound table v w left right = record {
  holds = λ e k u one low here.
      ⊎_elim
      (λ lt. Covers_trans (join_of v w) w u (Covers-join_right v w) (right.holds e k u one (omega (arith, lt, low, at-join_of v w e)) here))
      (λ le. Covers_trans (join_of v w) v u (Covers-join_left v w) (left.holds e k u one le here))
      (cases_lt (at v e) k);
}

-- a meet of sound vectors is sound
pub meet_of_sound : (table : ℕ → ℕ → Option (List ℕ)) (v w : List ℕ) → SoundFor table v → SoundFor table w → SoundFor table (meet_of v w)
meet_of_sound table v w left right = record {
  holds = λ e k u one low here.
      Covers_meet v w u (left.holds e k u one (omega (arith, low, at-meet_of v w e)) here) (right.holds e k u one (omega (arith, low, at-meet_of v w e)) here);
}

-- ---- the K-th largest

-- as many reach a number in a column as there are rows that reach it there
reach-column : (m e : ℕ) (rows : List (List ℕ)) → reach m (column e rows) ≡ count_by (λ row. leb m (at row e)) rows
reach-column m e rows = count_by-map (leb m) (λ row. at row e) rows

-- the K-th largest is reached by K rows at each centre
pub kth_largest_reached : (k e : ℕ) (rows : List (List ℕ)) → k ≤ length rows → k ≤ reach (at (kth_largest k rows) e) (column e rows)
kth_largest_reached k e rows few =
    kth_of_reached k (at (kth_largest k rows) e) (column e rows)
    (omega (arith, few, length-map rows (λ row. at row e)))
    (at-tabulate_le (width_of rows) e (λ e. kth_of k (column e rows)))

-- what is some and within it at a centre, K rows reach there
pub reached_by_rows : (k e m : ℕ) (rows : List (List ℕ)) → 1 ≤ m → m ≤ at (kth_largest k rows) e → k ≤ count_by (λ row. leb m (at row e)) rows
reached_by_rows k e m rows some low =
    let le : m ≤ kth_of k (column e rows) = omega (arith, low, at-tabulate_le (width_of rows) e (λ e. kth_of k (column e rows))) in
    omega (arith, reach-column m e rows, kth_of_reached_some k m (column e rows) some le)

-- what K rows reach at a centre is within it there
pub kth_largest_least : (k e m : ℕ) (rows : List (List ℕ)) → 1 ≤ k → 1 ≤ e → e ≤ width_of rows → k ≤ reach m (column e rows) → m ≤ at (kth_largest k rows) e
kth_largest_least k e m rows one low few enough = omega (arith, reached_kth_of k m (column e rows) one enough, at-tabulate (width_of rows) e (λ e. kth_of k (column e rows)) low few)

-- what bounds each row bounds it
pub kth_largest_bounded : (bound : ℕ → ℕ) (k : ℕ) (rows : List (List ℕ)) → 1 ≤ k → All (λ row. (e : ℕ) → at row e ≤ bound e) rows → (e : ℕ) → at (kth_largest k rows) e ≤ bound e
kth_largest_bounded bound k rows one all e = by_size (at (kth_largest k rows) e) refl
  where
    by_size : (m : ℕ) → at (kth_largest k rows) e ≡ m → at (kth_largest k rows) e ≤ bound e
    by_size zero is = omega (arith, is)
    by_size (suc m) is =
        let row = counted (λ row. leb (suc m) (at row e)) rows (omega (arith, one, reached_by_rows k e (suc m) rows (omega arith) (omega (arith, is)))) in
        omega (arith, is, leb-true (suc m) (at row.0 e) row.2, All-In (λ (row : List ℕ). (e : ℕ) → at row e ≤ bound e) rows row.0 all row.1 e)

-- the K-th largest of sound rows of one width is sound
pub kth_largest_sound : (table : ℕ → ℕ → Option (List ℕ)) (k : ℕ) (rows : List (List ℕ)) → 1 ≤ k → All (λ row. length row ≡ width_of rows) rows → AllSound table rows → SoundFor table (kth_largest k rows)
kth_largest_sound table k rows one wide all = record { holds = λ e m w some low here. record { holds = covered e m w some low here } }
  where
    covered : (e m : ℕ) (w : List ℕ) → 1 ≤ m → m ≤ at (kth_largest k rows) e → table e m ≡ Some w → (f : ℕ) → at w f ≤ at (kth_largest k rows) f
    covered e m w some low here zero = omega arith
    covered e m w some low here (suc i) = ⊎_elim past inside (cases_lt (width_of rows) (suc i))
      where
        row_covers : (row : List ℕ) → In row rows → leb m (at row e) ≡ true → at w (suc i) ≤ at row (suc i)
        row_covers row j reaches = ((All-In (λ (row : List ℕ). SoundFor table row) rows row all j).holds e m w some (leb-true m (at row e) reaches) here).holds (suc i)

        inside : suc i ≤ width_of rows → at w (suc i) ≤ at (kth_largest k rows) (suc i)
        inside few =
            let more : count_by (λ row. leb m (at row e)) rows ≤ count_by (λ row. leb (at w (suc i)) (at row (suc i))) rows = count_by_grows _ _ rows (λ row j reaches. le-leb _ _ (row_covers row j reaches)) in
            kth_largest_least k (suc i) (at w (suc i)) rows one (omega arith) few (omega (arith, more, reached_by_rows k e m rows some low, reach-column (at w (suc i)) (suc i) rows))

        past : width_of rows < suc i → at w (suc i) ≤ at (kth_largest k rows) (suc i)
        past out =
            let row = counted (λ row. leb m (at row e)) rows (omega (arith, one, reached_by_rows k e m rows some low)) in
            let none : at row.0 (suc i) ≡ 0 = at_past row.0 (suc i) (omega (arith, out, All-In (λ (row : List ℕ). length row ≡ width_of rows) rows row.0 wide row.1)) in
            omega (arith, none, row_covers row.0 row.1 row.2)
