-- What another order of a list keeps.
use Rattle.std.proofs.Common.{◌≡◌, suc, Bool, true, false, cond, inl, inr, ⊎_elim, List, [], ◌∷◌, ◌++◌, length, refl, ap, ◌∙◌}
use Rattle.std.specs.Prelude.{filter, not}
use Rattle.list_core.specs.Members.{In}
use Rattle.list_core.specs.Permutations.{Perm, Done, Skip, Swap, Then}
use Rattle.list_core.proofs.Blocks.{same_order, turned_order, from_front}

-- the members are the same
pub perm_in : {X : Type 0} (xs ys : List X) (z : X) → Perm xs ys → (In z xs → In z ys) × (In z ys → In z xs)
perm_in _ _ z Done = (λ i. i, λ i. i)
perm_in _ _ z (Skip x xs ys p) =
    let h = perm_in xs ys z p in
    (λ i. ⊎_elim (λ e. inl e) (λ j. inr (h.0 j)) i, λ i. ⊎_elim (λ e. inl e) (λ j. inr (h.1 j)) i)
perm_in _ _ z (Swap x y xs) = (
  λ i. ⊎_elim (λ e. inr (inl e)) (λ j. ⊎_elim (λ e. inl e) (λ k. inr (inr k)) j) i,
  λ i. ⊎_elim (λ e. inr (inl e)) (λ j. ⊎_elim (λ e. inl e) (λ k. inr (inr k)) j) i,
)
perm_in _ _ z (Then xs ys zs p q) =
    let h = perm_in xs ys z p in let k = perm_in ys zs z q in
    (λ i. k.0 (h.0 i), λ i. h.1 (k.1 i))

-- those that pass a test are the same
pub filter_order : {X : Type 0} (test : X → Bool) (xs ys : List X) → Perm xs ys → Perm (filter test xs) (filter test ys)
filter_order test _ _ Done = Done
filter_order {X} test _ _ (Skip x xs ys p) = go (test x) (filter_order test xs ys p)
  where
    go : (b : Bool) → Perm (filter test xs) (filter test ys) → Perm (cond b (x ∷ filter test xs) (filter test xs)) (cond b (x ∷ filter test ys) (filter test ys))
    go true rest = Skip x _ _ rest
    go false rest = rest
filter_order {X} test _ _ (Swap x y xs) = go (test x) (test y) (filter test xs)
  where
    go : (a b : Bool) (rest : List X) → Perm (cond a (x ∷ cond b (y ∷ rest) rest) (cond b (y ∷ rest) rest)) (cond b (y ∷ cond a (x ∷ rest) rest) (cond a (x ∷ rest) rest))
    go true true rest = Swap x y rest
    go true false rest = same_order (x ∷ rest)
    go false true rest = same_order (y ∷ rest)
    go false false rest = same_order rest
filter_order test _ _ (Then xs ys zs p q) = Then _ _ _ (filter_order test xs ys p) (filter_order test ys zs q)

-- there are as many
pub length_order : {X : Type 0} (xs ys : List X) → Perm xs ys → length xs ≡ length ys
length_order _ _ Done = refl
length_order _ _ (Skip x xs ys p) = ap suc (length_order xs ys p)
length_order _ _ (Swap x y xs) = refl
length_order _ _ (Then xs ys zs p q) = length_order xs ys p ∙ length_order ys zs q

-- those that pass a test, with those that do not, are all
pub both_ways : {X : Type 0} (test : X → Bool) (xs : List X) → Perm (filter test xs ++ filter (λ x. not (test x)) xs) xs
both_ways test [] = Done
both_ways {X} test (x ∷ xs) = go (test x) (both_ways test xs)
  where
    go : (b : Bool) → Perm (filter test xs ++ filter (λ x. not (test x)) xs) xs → Perm (cond b (x ∷ filter test xs) (filter test xs) ++ cond (not b) (x ∷ filter (λ x. not (test x)) xs) (filter (λ x. not (test x)) xs)) (x ∷ xs)
    go true rest = Skip x _ _ rest
    go false rest = Then _ _ _ (turned_order _ _ (from_front x (filter test xs) (filter (λ x. not (test x)) xs))) (Skip x _ _ rest)
