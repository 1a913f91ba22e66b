-- The first element that passes, and the others, by its place.
use Rattle.std.proofs.Common.{◌≡◌, ◌<◌, ℕ, zero, suc, ◌+◌, Bool, true, false, cond, List, [], ◌∷◌, ◌++◌, length, take, drop, Some, None, refl, sym, ap, ◌∙◌, subst, arith, ◌-◌, add-one}
use Rattle.std.proofs.lemmas.List.{length-take-le}
use Rattle.std.specs.Prelude.{position, slice_get, slice_set, remove}
use Rattle.std.specs.List.{position_from}
use Rattle.std.proofs.lemmas.Option.{none-some, same_Some}
use Rattle.std.proofs.lemmas.Iterator.Adapters.{position_from-zero}
use Rattle.list_core.specs.Firsts.{first_that, without_first, in_front, brought_forward}

-- the first element that passes stands at the place
record FirstAt {X : Type 0} (p : X → Bool) (xs : List X) (place : ℕ) : Type 0 where
  first : first_that p xs ≡ slice_get xs place
  others : without_first p xs ≡ remove xs place

-- a place that is found, counted from i, is that of the first that passes
first_at : {X : Type 0} (p : X → Bool) (i : ℕ) (xs : List X) (k : ℕ) → position_from p i xs ≡ Some k → (j : ℕ) × (k ≡ i + j) × FirstAt p xs j
first_at p i [] k is = absurd (none-some k is)
first_at p i (x ∷ xs) k is = by (p x) refl is (λ rest. first_at p (i + 1) xs k rest)
  where
    by : (b : Bool) → p x ≡ b → cond b (Some i) (position_from p (i + 1) xs) ≡ Some k → (position_from p (i + 1) xs ≡ Some k → (j : ℕ) × (k ≡ i + 1 + j) × FirstAt p xs j) → (j : ℕ) × (k ≡ i + j) × FirstAt p (x ∷ xs) j
    by true test here rest =
        let same : i ≡ k = same_Some i k here in
        (0, omega arith, record { first = rw test refl; others = rw test refl })
    by false test there rest =
        let r = rest there in
        let below : k ≡ i + 1 + r.0 = r.1 in
        (suc r.0, omega arith, record { first = rw test r.2.first; others = rw test (ap (λ ys. x ∷ ys) r.2.others) })

-- none passes
none_at : {X : Type 0} (p : X → Bool) (i : ℕ) (xs : List X) → position_from p i xs ≡ None → (first_that p xs ≡ None) × (without_first p xs ≡ xs)
none_at p i [] is = (refl, refl)
none_at p i (x ∷ xs) is = by (p x) refl is (λ rest. none_at p (i + 1) xs rest)
  where
    by : (b : Bool) → p x ≡ b → cond b (Some i) (position_from p (i + 1) xs) ≡ None → (position_from p (i + 1) xs ≡ None → (first_that p xs ≡ None) × (without_first p xs ≡ xs)) → (first_that p (x ∷ xs) ≡ None) × (without_first p (x ∷ xs) ≡ x ∷ xs)
    by true test is rest = cc
    by false test is rest =
        let r = rest is in
        (rw test r.0, rw test (ap (λ ys. x ∷ ys) r.1))

-- the place that is found is that of the first that passes
found : {X : Type 0} (p : X → Bool) (xs : List X) (place : ℕ) → position p xs ≡ Some place → FirstAt p xs place
found p xs place is =
    let f = first_at p 0 xs place (sym (position_from-zero p xs) ∙ is) in
    let below : place ≡ 0 + f.0 = f.1 in
    let same : f.0 ≡ place = omega arith in
    subst (λ j. FirstAt p xs j) same f.2

-- the first that passes is the element at the place that is found
pub first_that-found : {X : Type 0} (p : X → Bool) (xs : List X) (place : ℕ) → position p xs ≡ Some place → first_that p xs ≡ slice_get xs place
first_that-found p xs place is = (found p xs place is).first

-- and the others are what is left without that place
pub without_first-found : {X : Type 0} (p : X → Bool) (xs : List X) (place : ℕ) → position p xs ≡ Some place → without_first p xs ≡ remove xs place
without_first-found p xs place is = (found p xs place is).others

-- where no place is found, none passes
pub first_that-none : {X : Type 0} (p : X → Bool) (xs : List X) → position p xs ≡ None → first_that p xs ≡ None
first_that-none p xs is = (none_at p 0 xs (sym (position_from-zero p xs) ∙ is)).0

-- and the list stays
pub without_first-none : {X : Type 0} (p : X → Bool) (xs : List X) → position p xs ≡ None → without_first p xs ≡ xs
without_first-none p xs is = (none_at p 0 xs (sym (position_from-zero p xs) ∙ is)).1

-- what is brought forward is the element at the place that is found
pub brought_forward-found : {X : Type 0} (p : X → Bool) (xs : List X) (place : ℕ) → position p xs ≡ Some place → brought_forward p xs ≡ in_front (slice_get xs place) (remove xs place)
brought_forward-found p xs place is = rw (first_that-found p xs place is) (ap (in_front (slice_get xs place)) (without_first-found p xs place is))

-- where no place is found, the list stays as it is
pub brought_forward-none : {X : Type 0} (p : X → Bool) (xs : List X) → position p xs ≡ None → brought_forward p xs ≡ xs
brought_forward-none p xs is = rw (first_that-none p xs is) (without_first-none p xs is)

-- the last of the elements up to a place, and the others
last_of : {X : Type 0} (xs : List X) (i : ℕ) → i < length xs → (x : X) × (slice_get xs i ≡ Some x) × (drop i (take (suc i) xs) ≡ x ∷ []) × (take i (take (suc i) xs) ≡ take i xs)
last_of [] i lt = absurd (omega arith)
last_of (x ∷ xs) zero lt = (x, refl, refl, refl)
last_of (x ∷ xs) (suc i) lt =
    let rest = last_of xs i (omega arith) in
    (rest.0, rest.1, rest.2, ap (λ ys. x ∷ ys) rest.3)

-- the elements up to a place, turned by one, and those behind them
pub turned : {X : Type 0} (xs turn : List X) (place : ℕ) → place < length xs → turn ≡ drop (length (take (place + 1) xs) - 1) (take (place + 1) xs) ++ take (length (take (place + 1) xs) - 1) (take (place + 1) xs) → turn ++ drop (place + 1) xs ≡ in_front (slice_get xs place) (remove xs place)
turned xs turn place lt is =
    let last = last_of xs place lt in
    let len : length (take (suc place) xs) ≡ suc place = length-take-le (suc place) xs (omega arith) in
    let less : length (take (suc place) xs) - 1 ≡ place = omega (arith, len) in
    let whole : turn ≡ drop place (take (suc place) xs) ++ take place (take (suc place) xs) = rw (add-one, less) at is in
    let turn_is : turn ≡ last.0 ∷ take place xs = rw (last.2, last.3) at whole in
    rw (turn_is, add-one, last.1) refl

-- the element that was put in front is read there
pub front-read : {X : Type 0} (xs rest : List X) (place : ℕ) → place < length xs → slice_get (in_front (slice_get xs place) rest) 0 ≡ slice_get xs place
front-read xs rest place lt =
    let last = last_of xs place lt in
    rw last.1 refl

-- and replaced there
pub front-set : {X : Type 0} (xs rest : List X) (place : ℕ) (y : X) → place < length xs → slice_set (in_front (slice_get xs place) rest) 0 y ≡ y ∷ rest
front-set xs rest place y lt =
    let last = last_of xs place lt in
    rw last.1 refl

-- where none passes, the list stays
pub brought_forward-absent : {X : Type 0} (p : X → Bool) (xs : List X) → first_that p xs ≡ None → brought_forward p xs ≡ xs
brought_forward-absent p xs none = rw none (others p xs none)
  where
    others : {X : Type 0} (p : X → Bool) (xs : List X) → first_that p xs ≡ None → without_first p xs ≡ xs
    others p [] none = refl
    others p (x ∷ xs) none = by (p x) refl none (λ rest. others p xs rest)
      where
        by : (b : Bool) → p x ≡ b → cond b (Some x) (first_that p xs) ≡ None → (first_that p xs ≡ None → without_first p xs ≡ xs) → without_first p (x ∷ xs) ≡ x ∷ xs
        by true test is rest = absurd (none-some x (sym is))
        by false test is rest = rw test (ap (λ ys. x ∷ ys) (rest is))
