-- How many of a list reach a number, and the greatest number that k of them reach.
use Rattle.std.proofs.Common.{◌≡◌, ◌≤◌, ◌<◌, ℕ, zero, suc, ◌+◌, max, Bool, true, false, cond, leb, List, [], ◌∷◌, length, get_or, drop, map, add-one, refl, sym, ap, ◌∙◌, subst, arith, ⊎_elim, inl, inr, ◌⊎◌}
use Rattle.std.specs.Prelude.{filter, count_by}
use Rattle.std.proofs.lemmas.Bool.{cases_lt, leb-true, le-leb, false≢true}
use Rattle.std.proofs.lemmas.List.Sums.{sum_by-cons}
use Rattle.list_core.specs.Members.{In}
use Rattle.list_core.proofs.Members.{In_filter, In_from_filter}
use Rattle.vv_core.specs.Vectors.{at, most, reach, kth_of, column}

-- ---- counts

-- a count is that of the first element and that of the others
pub count_by-cons : {X : Type 0} (p : X → Bool) (x : X) (xs : List X) → count_by p (x ∷ xs) ≡ cond (p x) 1 0 + count_by p xs
count_by-cons p x xs = sum_by-cons (λ x. cond (p x) 1 0) x xs

-- a count of images is a count of the elements
pub count_by-map : {X Y : Type 0} (p : Y → Bool) (f : X → Y) (xs : List X) → count_by p (map f xs) ≡ count_by (λ x. p (f x)) xs
count_by-map p f [] = refl
count_by-map p f (x ∷ xs) = omega (arith, count_by-cons p (f x) (map f xs), count_by-cons (λ x. p (f x)) x xs, count_by-map p f xs)

-- a test that more elements pass counts at least as many
pub count_by_grows : {X : Type 0} (p q : X → Bool) (xs : List X) → ((x : X) → In x xs → p x ≡ true → q x ≡ true) → count_by p xs ≤ count_by q xs
count_by_grows p q [] more = omega arith
count_by_grows {X} p q (x ∷ xs) more =
    let rest = count_by_grows p q xs (λ y i. more y (inr i)) in
    let here = one (p x) (q x) (more x (inl refl)) in
    omega (arith, count_by-cons p x xs, count_by-cons q x xs, rest, here)
  where
    one : (a b : Bool) → (a ≡ true → b ≡ true) → cond a 1 0 ≤ cond b 1 0
    one true true h = omega arith
    one true false h = absurd (false≢true (h refl))
    one false true h = omega arith
    one false false h = omega arith

-- where some are counted, an element passes
pub counted : {X : Type 0} (p : X → Bool) (xs : List X) → 1 ≤ count_by p xs → (x : X) × In x xs × (p x ≡ true)
counted p [] some = absurd (omega arith)
counted {X} p (x ∷ xs) some = by_test (λ h. counted p xs h) (p x) refl (subst (λ (n : ℕ). 1 ≤ n) (count_by-cons p x xs) some)
  where
    by_test : (1 ≤ count_by p xs → (y : X) × In y xs × (p y ≡ true)) → (b : Bool) → p x ≡ b → 1 ≤ cond b 1 0 + count_by p xs → (y : X) × In y (x ∷ xs) × (p y ≡ true)
    by_test rest true is some = (x, inl refl, is)
    by_test rest false is some = let r = rest (omega arith) in (r.0, inr r.1, r.2)

-- all of a list reach 0
pub reach-zero : (xs : List ℕ) → reach 0 xs ≡ length xs
reach-zero [] = refl
reach-zero (x ∷ xs) = omega (arith, count_by-cons (leb 0) x xs, ap {B = ℕ} (λ b. cond b 1 0) (le-leb 0 x (omega arith)), reach-zero xs)

-- a greater number is reached by no more
pub reach_falls : (m n : ℕ) (xs : List ℕ) → m ≤ n → reach n xs ≤ reach m xs
reach_falls m n xs le = count_by_grows (leb n) (leb m) xs (λ y i is. le-leb m y (omega (arith, le, leb-true n y is)))

-- ---- the greatest, and what a filter keeps

-- no element is above the greatest
pub In-most : (xs : List ℕ) (x : ℕ) → In x xs → x ≤ most xs
In-most [] x i = absurd i
In-most (y ∷ xs) x (inl same) = omega (arith, same)
In-most (y ∷ xs) x (inr i) = omega (arith, In-most xs x i)

-- the greatest is an element, where it is not 0
pub most_in : (xs : List ℕ) → 1 ≤ most xs → In (most xs) xs
most_in [] some = absurd (omega arith)
most_in (y ∷ xs) some =
    ⊎_elim
    (λ lt. let rest : max y (most xs) ≡ most xs = omega arith in inr (subst (λ (x : ℕ). In x xs) (sym rest) (most_in xs (omega arith))))
    (λ le. inl (omega arith))
    (cases_lt y (most xs))

-- ---- the reach law

-- the least of those that reach m
record IsLeastFrom (m : ℕ) (xs : List ℕ) (y : ℕ) : Type 0 where
  there : In y xs
  from : m ≤ y
  least : (z : ℕ) → In z xs → m ≤ z → y ≤ z

-- a list has a least element that reaches a number, or none that does
least_from : (m : ℕ) (xs : List ℕ) → ((z : ℕ) → In z xs → z < m) ⊎ ((y : ℕ) × IsLeastFrom m xs y)
least_from m [] = inl (λ z i. absurd i)
least_from m (x ∷ xs) = choose (least_from m xs) (cases_lt x m)
  where
    first : m ≤ x → ((z : ℕ) → In z xs → m ≤ z → x ≤ z) → IsLeastFrom m (x ∷ xs) x
    first from least = record { there = inl refl; from = from; least = all }
      where
        all : (z : ℕ) → In z (x ∷ xs) → m ≤ z → x ≤ z
        all z (inl same) up = omega (arith, same)
        all z (inr i) up = least z i up

    later : (y : ℕ) → IsLeastFrom m xs y → (m ≤ x → y ≤ x) → IsLeastFrom m (x ∷ xs) y
    later y h below = record { there = inr h.there; from = h.from; least = all }
      where
        all : (z : ℕ) → In z (x ∷ xs) → m ≤ z → y ≤ z
        all z (inl same) up = omega (arith, same, below (omega (arith, same, up)))
        all z (inr i) up = h.least z i up

    none : ((z : ℕ) → In z xs → z < m) → x < m → (z : ℕ) → In z (x ∷ xs) → z < m
    none rest lt z (inl same) = omega (arith, same, lt)
    none rest lt z (inr i) = rest z i

    choose : ((z : ℕ) → In z xs → z < m) ⊎ ((y : ℕ) × IsLeastFrom m xs y) → (x < m) ⊎ (m ≤ x) → ((z : ℕ) → In z (x ∷ xs) → z < m) ⊎ ((y : ℕ) × IsLeastFrom m (x ∷ xs) y)
    choose (inl rest) (inl lt) = inl (none rest lt)
    choose (inl rest) (inr le) = inr (x, first le (λ z i up. absurd (omega (arith, rest z i, up))))
    choose (inr found) (inl lt) = inr (found.0, later found.0 found.1 (λ le. absurd (omega (arith, le, lt))))
    choose (inr found) (inr le) =
        ⊎_elim
        (λ lt. inr (found.0, later found.0 found.1 (λ up. omega (arith, lt))))
        (λ more. inr (x, first le (λ z i up. omega (arith, more, found.1.least z i up))))
        (cases_lt found.0 x)

-- what is at most the K-th largest is reached by K; 0 is reached by all
pub kth_of_reached_some : (k m : ℕ) (xs : List ℕ) → 1 ≤ m → m ≤ kth_of k xs → k ≤ reach m xs
kth_of_reached_some k m xs some le =
    let good = λ (x : ℕ). leb k (reach x xs) in
    let best : ℕ = most (filter good xs) in
    let kept = In_from_filter good xs best (most_in (filter good xs) (omega arith)) in
    omega (arith, leb-true k (reach best xs) kept.1, reach_falls m best xs le)

-- so is what is at most the K-th largest, where the list has as many as K
pub kth_of_reached : (k m : ℕ) (xs : List ℕ) → k ≤ length xs → m ≤ kth_of k xs → k ≤ reach m xs
kth_of_reached k zero xs few le = omega (arith, few, reach-zero xs)
kth_of_reached k (suc m) xs few le = kth_of_reached_some k (suc m) xs (omega arith) le

-- what K reach is at most the K-th largest
pub reached_kth_of : (k m : ℕ) (xs : List ℕ) → 1 ≤ k → k ≤ reach m xs → m ≤ kth_of k xs
reached_kth_of k m xs one enough = choose (least_from m xs)
  where
    choose : ((z : ℕ) → In z xs → z < m) ⊎ ((y : ℕ) × IsLeastFrom m xs y) → m ≤ kth_of k xs
    choose (inl none) =
        let some = counted (leb m) xs (omega arith) in
        absurd (omega (arith, none some.0 some.1, leb-true m some.0 some.2))
    choose (inr found) =
        let y = found.0 in
        let same : reach m xs ≤ reach y xs = count_by_grows (leb m) (leb y) xs (λ z i is. le-leb y z (found.1.least z i (leb-true m z is))) in
        let kept = In_filter (λ x. leb k (reach x xs)) xs y found.1.there (le-leb k (reach y xs) (omega (arith, same, enough))) in
        omega (arith, found.1.from, In-most _ y kept)

-- the K-th largest is one of the list, or 0
pub kth_of_in : (k : ℕ) (xs : List ℕ) → 1 ≤ kth_of k xs → In (kth_of k xs) xs
kth_of_in k xs some = (In_from_filter (λ x. leb k (reach x xs)) xs (kth_of k xs) (most_in (filter (λ x. leb k (reach x xs)) xs) some)).0

-- ---- a loop over the rows: the greatest that passes, of the entries at a centre from the row i on

-- the greatest of the entries that are left is that of the next row, or of the later ones
most_left : (good : ℕ → Bool) (e : ℕ) (rows : List (List ℕ)) (i : ℕ) (row : List ℕ) → i < length rows → row ≡ get_or rows i row → most (filter good (column e (drop i rows))) ≡ max (cond (good (at row e)) (at row e) 0) (most (filter good (column e (drop (suc i) rows))))
most_left good e [] i row lt is = absurd (omega arith)
most_left good e (r ∷ rows) zero row lt is = one (good (at r e)) (at r e) (filter good (column e rows)) ∙ ap (λ r. max (cond (good (at r e)) (at r e) 0) (most (filter good (column e rows)))) (sym is)
  where
    one : (b : Bool) (x : ℕ) (xs : List ℕ) → most (cond b (x ∷ xs) xs) ≡ max (cond b x 0) (most xs)
    one true x xs = refl
    one false x xs = omega arith
most_left good e (r ∷ rows) (suc i) row lt is = most_left good e rows i row (omega arith) is

-- the greatest so far, and the greatest of those that are left, after one row
pub most_next : (good : ℕ → Bool) (e : ℕ) (rows : List (List ℕ)) (i : ℕ) (row : List ℕ) (best later : ℕ) → i < length rows → row ≡ get_or rows i row → ((good (at row e) ≡ true) × (later ≡ max best (at row e))) ⊎ ((good (at row e) ≡ false) × (later ≡ best)) → max later (most (filter good (column e (drop (i + 1) rows)))) ≡ max best (most (filter good (column e (drop i rows))))
most_next good e rows i row best later lt is (inl h) =
    let here : cond (good (at row e)) (at row e) 0 ≡ at row e = ap (λ b. cond b (at row e) 0) h.0 in
    rw add-one (omega (arith, here, h.1, most_left good e rows i row lt is))
most_next good e rows i row best later lt is (inr h) =
    let here : cond (good (at row e)) (at row e) 0 ≡ 0 = ap (λ b. cond b (at row e) 0) h.0 in
    rw add-one (omega (arith, here, h.1, most_left good e rows i row lt is))
