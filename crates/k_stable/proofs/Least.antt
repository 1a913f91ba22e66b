-- The least of a list is the number that all of the list reach.
use Rattle.std.proofs.Common.{◌≡◌, ◌≤◌, ℕ, Bool, true, false, cond, leb, List, [], ◌∷◌, length, refl, sym, ap, ◌∙◌, arith}
use Rattle.std.specs.Prelude.{All}
use Rattle.std.proofs.lemmas.Bool.{leb-true, le-leb}
use Rattle.std.proofs.lemmas.List.{length-map}
use Rattle.std.proofs.lemmas.List.Elements.{All-nil, All-cons, All-head, All-tail}
use Rattle.std.proofs.lemmas.List.Sums.{count_by-le-length}
use Rattle.vv_core.specs.Vectors.{at, reach, column, kth_of, kth_largest, tabulate, width_of, least}
use Rattle.vv_core.proofs.Entrywise.{same_tabulate}
use Rattle.vv_core.proofs.Reaching.{count_by-cons, kth_of_reached, reached_kth_of}

-- what is at most the least, all reach
pub reach_least : (m : ℕ) (xs : List ℕ) → m ≤ least xs → length xs ≤ reach m xs
reach_least m [] le = omega arith
reach_least m (x ∷ []) le = omega (arith, count_by-cons (leb m) x [], ap {B = ℕ} (λ b. cond b 1 0) (le-leb m x le))
reach_least m (x ∷ y ∷ ys) le = omega (arith, count_by-cons (leb m) x (y ∷ ys), ap {B = ℕ} (λ b. cond b 1 0) (le-leb m x (omega (arith, le))), reach_least m (y ∷ ys) (omega (arith, le)))

-- what all reach is at most each
pub reached_all : (m : ℕ) (xs : List ℕ) → length xs ≤ reach m xs → All (λ x. m ≤ x) xs
reached_all m [] full = All-nil (λ x. m ≤ x)
reached_all m (x ∷ xs) full =
    let one = counted (leb m x) refl in
    All-cons (λ x. m ≤ x) x xs (one.0) (reached_all m xs (one.1))
  where
    counted : (b : Bool) → leb m x ≡ b → (m ≤ x) × (length xs ≤ reach m xs)
    counted true is = (leb-true m x is, omega (arith, full, count_by-cons (leb m) x xs, ap {B = ℕ} (λ b. cond b 1 0) is))
    counted false is = absurd (omega (arith, full, count_by-cons (leb m) x xs, ap {B = ℕ} (λ b. cond b 1 0) is, count_by-le-length (leb m) xs))

-- what is at most each is at most the least
pub All-least : (m : ℕ) (xs : List ℕ) → 1 ≤ length xs → All (λ x. m ≤ x) xs → m ≤ least xs
All-least m [] some all = absurd (omega arith)
All-least m (x ∷ []) some all = All-head (λ x. m ≤ x) x [] all
All-least m (x ∷ y ∷ ys) some all = omega (arith, All-head (λ x. m ≤ x) x (y ∷ ys) all, All-least m (y ∷ ys) (omega arith) (All-tail (λ x. m ≤ x) x (y ∷ ys) all))

-- so it is the last of the K-th largest
pub kth_of-length : (xs : List ℕ) → 1 ≤ length xs → kth_of (length xs) xs ≡ least xs
kth_of-length xs some =
    let k = length xs in
    let low : least xs ≤ kth_of k xs = reached_kth_of k (least xs) xs some (reach_least (least xs) xs (omega arith)) in
    let high : kth_of k xs ≤ least xs = All-least (kth_of k xs) xs some (reached_all (kth_of k xs) xs (kth_of_reached k (kth_of k xs) xs (omega arith) (omega arith))) in
    omega (arith, low, high)

-- of rows of one width, as many as the list has, it is the least at each centre
pub kth_largest-least : (n : ℕ) (rows : List (List ℕ)) → 1 ≤ n → length rows ≡ n → width_of rows ≡ n → kth_largest n rows ≡ tabulate n (λ e. least (column e rows))
kth_largest-least n rows some count wide =
    ap (λ w. tabulate w (λ e. kth_of n (column e rows))) wide
    ∙ same_tabulate n (λ e. kth_of n (column e rows)) (λ e. least (column e rows)) (λ e one few. each (column e rows) (length-map rows (λ row. at row e) ∙ count))
  where
    each : (xs : List ℕ) → length xs ≡ n → kth_of n xs ≡ least xs
    each xs len = ap (λ k. kth_of k xs) (sym len) ∙ kth_of-length xs (omega (arith, len, some))
