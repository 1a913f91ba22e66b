-- The elements at the places of a list.
use Rattle.std.proofs.Common.{◌≡◌, ◌≢◌, ℕ, zero, suc, ◌+◌, ◌≤◌, ◌<◌, ◌⊎◌, inl, inr, ⊎_elim, List, [], ◌∷◌, ◌++◌, length, take, drop, Some, refl, sym, ap, ◌∙◌, subst, arith}
use Rattle.std.specs.Prelude.{slice_get, slice_set, slice_index_or, All}
use Rattle.std.specs.List.{Contains}
use Rattle.std.proofs.lemmas.Option.{none-some, same_Some, slice_get_within, get_or_from_slice_get, slice_get_read}
use Rattle.list_core.specs.Members.{In}

-- an element at each place within a list
pub get_within : {X : Type 0} (xs : List X) (p : ℕ) → p < length xs → (x : X) × (slice_get xs p ≡ Some x)
get_within [] p lt = absurd (omega arith)
get_within (x ∷ xs) zero lt = (x, refl)
get_within (x ∷ xs) (suc p) lt = get_within xs p (omega arith)

-- an element at a place is a member
pub get_In : {X : Type 0} (xs : List X) (p : ℕ) (x : X) → slice_get xs p ≡ Some x → In x xs
get_In [] p x there = absurd (none-some x there)
get_In (y ∷ xs) zero x there = inl (sym (same_Some y x there))
get_In (y ∷ xs) (suc p) x there = inr (get_In xs p x there)

-- a member has a place
pub In_get : {X : Type 0} (xs : List X) (x : X) → In x xs → (p : ℕ) × (slice_get xs p ≡ Some x)
In_get [] x i = absurd i
In_get (y ∷ xs) x (inl same) = (0, ap Some (sym same))
In_get (y ∷ xs) x (inr i) = let r = In_get xs x i in (suc r.0, r.1)

-- a place of a prefix is one of the list
pub get_in_take : {X : Type 0} (xs : List X) (n p : ℕ) (x : X) → slice_get (take n xs) p ≡ Some x → slice_get xs p ≡ Some x
get_in_take xs zero p x there = absurd (none-some x there)
get_in_take [] (suc n) p x there = there
get_in_take (y ∷ xs) (suc n) zero x there = there
get_in_take (y ∷ xs) (suc n) (suc p) x there = get_in_take xs n p x there

-- an element at a place below n is among the first n
pub get_In_take : {X : Type 0} (n : ℕ) (xs : List X) (p : ℕ) (x : X) → p < n → slice_get xs p ≡ Some x → In x (take n xs)
get_In_take zero xs p x lt there = absurd (omega (arith, lt))
get_In_take (suc n) [] p x lt there = absurd (none-some x there)
get_In_take (suc n) (y ∷ ys) zero x lt there = inl (sym (same_Some y x there))
get_In_take (suc n) (y ∷ ys) (suc p) x lt there = inr (get_In_take n ys p x (omega (arith, lt)) there)

-- one of the first n elements has a place below n
pub In_take_get : {X : Type 0} (n : ℕ) (xs : List X) (x : X) → In x (take n xs) → (p : ℕ) × (p < n) × (slice_get xs p ≡ Some x)
In_take_get zero xs x i = absurd i
In_take_get (suc n) [] x i = absurd i
In_take_get (suc n) (y ∷ ys) x (inl same) = (0, omega arith, ap Some (sym same))
In_take_get (suc n) (y ∷ ys) x (inr i) = let r = In_take_get n ys x i in (suc r.0, omega (arith, r.1), r.2)

-- an element of what is left of a list
pub get_in_drop : {X : Type 0} (n : ℕ) (xs : List X) (p : ℕ) (x : X) → slice_get (drop n xs) p ≡ Some x → slice_get xs (n + p) ≡ Some x
get_in_drop zero xs p x there = let same : p ≡ 0 + p = omega arith in subst (λ q. slice_get xs q ≡ Some x) same there
get_in_drop (suc n) [] p x there = absurd (none-some x there)
get_in_drop (suc n) (y ∷ xs) p x there = let same : suc (n + p) ≡ suc n + p = omega arith in subst (λ q. slice_get (y ∷ xs) q ≡ Some x) same (get_in_drop n xs p x there)

-- an element at a place from n on is among what is left past n
pub get_In_drop : {X : Type 0} (n : ℕ) (xs : List X) (p : ℕ) (x : X) → n ≤ p → slice_get xs p ≡ Some x → In x (drop n xs)
get_In_drop zero xs p x le there = get_In xs p x there
get_In_drop (suc n) [] p x le there = absurd (none-some x there)
get_In_drop (suc n) (y ∷ xs) zero x le there = absurd (omega (arith, le))
get_In_drop (suc n) (y ∷ xs) (suc p) x le there = get_In_drop n xs p x (omega (arith, le)) there

-- a place of the front is one of the longer list
pub get_in_front : {X : Type 0} (xs ys : List X) (p : ℕ) (x : X) → slice_get xs p ≡ Some x → slice_get (xs ++ ys) p ≡ Some x
get_in_front [] ys p x there = absurd (none-some x there)
get_in_front (y ∷ xs) ys zero x there = there
get_in_front (y ∷ xs) ys (suc p) x there = get_in_front xs ys p x there

-- an element behind a list stands at the list's length
pub get_seam : {X : Type 0} (xs : List X) (x : X) (ys : List X) → slice_get (xs ++ x ∷ ys) (length xs) ≡ Some x
get_seam [] x ys = refl
get_seam (y ∷ xs) x ys = get_seam xs x ys

-- with one element more, a place is one of the shorter list, or the last
pub get_last : {X : Type 0} (xs : List X) (x y : X) (p : ℕ) → slice_get (xs ++ x ∷ []) p ≡ Some y → (slice_get xs p ≡ Some y) ⊎ ((x ≡ y) × (p ≡ length xs))
get_last [] x y zero there = inr (same_Some x y there, refl)
get_last [] x y (suc p) there = absurd (none-some y there)
get_last (z ∷ xs) x y zero there = inl there
get_last (z ∷ xs) x y (suc p) there = ⊎_elim (λ before. inl before) (λ last. inr (last.0, ap suc last.1)) (get_last xs x y p there)

-- what holds of each element holds of the one at a place
pub all_get : {X : Type 0} (P : X → Type 0) (xs : List X) (p : ℕ) (x : X) → All P xs → slice_get xs p ≡ Some x → P x
all_get P xs p x all there = subst P (get_or_from_slice_get xs p x x there) (all p x (slice_get_within xs p x there))

-- a member is contained
pub In_contains : {X : Type 0} (xs : List X) (x : X) → In x xs → Contains xs x
In_contains xs x i = let g = In_get xs x i in (g.0, slice_get_within xs g.0 x g.1, get_or_from_slice_get xs g.0 x x g.1)

-- what is contained is a member
pub contains_In : {X : Type 0} (xs : List X) (x : X) → Contains xs x → In x xs
contains_In xs x c = get_In xs c.0 x (slice_get_read xs (length xs) c.0 x refl c.1 (sym c.2))

-- where the elements of a list stand at their places in another, it is the front of it
pub is_front : {X : Type 0} (xs ys : List X) → ((p : ℕ) (x : X) → slice_get xs p ≡ Some x → slice_get ys p ≡ Some x) → xs ≡ take (length xs) ys
is_front [] ys stands = refl
is_front (x ∷ xs) [] stands = absurd (none-some x (stands 0 x refl))
is_front (x ∷ xs) (y ∷ ys) stands = ap (λ z. z ∷ xs) (sym (same_Some y x (stands 0 x refl))) ∙ ap (λ l. y ∷ l) (is_front xs ys (λ p z there. stands (suc p) z there))

-- an element that was put at a place is not at another one
pub set_else : {X : Type 0} (xs : List X) (place other : ℕ) (x : X) → other ≢ place → slice_get (slice_set xs place x) other ≡ slice_get xs other
set_else [] place other x differs = refl
set_else (y ∷ xs) zero zero x differs = absurd (differs refl)
set_else (y ∷ xs) zero (suc other) x differs = refl
set_else (y ∷ xs) (suc place) zero x differs = refl
set_else (y ∷ xs) (suc place) (suc other) x differs = set_else xs place other x (λ same. differs (ap suc same))

-- it is at its own
pub set_here : {X : Type 0} (xs : List X) (place : ℕ) (x : X) → place < length xs → slice_get (slice_set xs place x) place ≡ Some x
set_here [] place x within = absurd (omega arith)
set_here (y ∷ xs) zero x within = refl
set_here (y ∷ xs) (suc place) x within = set_here xs place x (omega arith)

-- past the end of a list there is the default
pub past_end : {X : Type 0} (xs : List X) (i : ℕ) (d : X) → length xs ≤ i → slice_index_or xs i d ≡ d
past_end [] i d le = refl
past_end (x ∷ xs) zero d le = absurd (omega (arith, le))
past_end (x ∷ xs) (suc i) d le = past_end xs i d (omega (arith, le))
