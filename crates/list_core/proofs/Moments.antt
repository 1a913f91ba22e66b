-- Facts of each element after those before it, and of each prefix: of none, and of one element more.
use Rattle.std.proofs.Common.{◌≡◌, ℕ, zero, suc, ◌⊎◌, inl, inr, ⊎_elim, List, [], ◌∷◌, ◌++◌, length, take, Option, Some, None, refl, sym, ap, subst, arith}
use Rattle.std.specs.Prelude.{slice_get}
use Rattle.std.proofs.lemmas.Option.{none-some, same_Some, slice_get_within}
use Rattle.std.proofs.lemmas.List.{take_all, take-take, length-take}
use Rattle.list_core.specs.Moments.{Each}
use Rattle.list_core.proofs.Gets.{get_in_take}

-- nothing is to be shown of no element
pub each_none : {X : Type 0} (P : List X → X → Type 0) → Each P []
each_none P = record { holds = λ p x there. absurd (none-some x there) }

-- an element of the longer list stands in the shorter one, or is the last
get-append_last : {X : Type 0} (xs : List X) (x y : X) (p : ℕ) → slice_get (xs ++ x ∷ []) p ≡ Some y → ((slice_get xs p ≡ Some y) × (take p (xs ++ x ∷ []) ≡ take p xs)) ⊎ ((x ≡ y) × (take p (xs ++ x ∷ []) ≡ xs))
get-append_last [] x y zero there = inr (same_Some x y there, refl)
get-append_last [] x y (suc p) there = absurd (none-some y there)
get-append_last (z ∷ xs) x y zero there = inl (there, refl)
get-append_last (z ∷ xs) x y (suc p) there = ⊎_elim (λ before. inl (before.0, ap (λ l. z ∷ l) before.1)) (λ last. inr (last.0, ap (λ l. z ∷ l) last.1)) (get-append_last xs x y p there)

-- one element more, of which the fact holds after the others
pub each_more : {X : Type 0} (P : List X → X → Type 0) (xs : List X) (x : X) → Each P xs → P xs x → Each P (xs ++ x ∷ [])
each_more P xs x each here = record { holds = λ p y there. ⊎_elim (λ before. subst (λ l. P l y) (sym before.1) (each.holds p y before.0)) (λ last. subst (λ l. P l y) (sym last.1) (subst (λ y. P xs y) last.0 here)) (get-append_last xs x y p there) }

-- the prefix with one element more
pub take_one_more : {X : Type 0} (xs : List X) (p : ℕ) (x : X) → slice_get xs p ≡ Some x → take (suc p) xs ≡ take p xs ++ x ∷ []
take_one_more [] p x there = absurd (none-some x there)
take_one_more (y ∷ xs) zero x there = ap (λ y. y ∷ []) (same_Some y x there)
take_one_more (y ∷ xs) (suc p) x there = ap (λ l. y ∷ l) (take_one_more xs p x there)

-- what holds of each element after those before it, holds so in a prefix
pub each_take : {X : Type 0} (P : List X → X → Type 0) (xs : List X) (n : ℕ) → Each P xs → Each P (take n xs)
each_take P xs n each = record {
  holds = λ p x there.
      let within = slice_get_within (take n xs) p x there in
      let long = length-take n xs in
      subst (λ l. P l x) (sym (take-take p n xs (omega (arith, within, long)))) (each.holds p x (get_in_take xs n p x there));
}

-- past the end a longer prefix is the same
pub take_no_more : {X : Type 0} (xs : List X) (p : ℕ) → slice_get xs p ≡ None → take (suc p) xs ≡ take p xs
take_no_more [] zero past = refl
take_no_more [] (suc p) past = refl
take_no_more (y ∷ xs) zero past = absurd (none-some y (sym past))
take_no_more (y ∷ xs) (suc p) past = ap (λ l. y ∷ l) (take_no_more xs p past)

-- what holds of no element, and goes from each prefix to the next, holds of every prefix
pub by_moments : {X : Type 0} (P : List X → Type 0) (xs : List X) → P [] → ((p : ℕ) (x : X) → slice_get xs p ≡ Some x → P (take p xs) → P (take p xs ++ x ∷ [])) → (p : ℕ) → P (take p xs)
by_moments P xs start step zero = start
by_moments {X} P xs start step (suc p) = go (slice_get xs p) refl (by_moments P xs start step p)
  where
    go : (o : Option X) → slice_get xs p ≡ o → P (take p xs) → P (take (suc p) xs)
    go None past h = subst P (sym (take_no_more xs p past)) h
    go (Some x) there h = subst P (sym (take_one_more xs p x there)) (step p x there h)

-- what holds of every prefix, holds of the list
pub by_prefixes : {X : Type 0} (P : List X → Type 0) (xs : List X) → ((p : ℕ) → P (take p xs)) → P xs
by_prefixes P xs all = subst P (take_all (length xs) xs (omega arith)) (all (length xs))

-- so what holds of no element, and goes from each prefix to the next, holds of the list
pub by_steps : {X : Type 0} (P : List X → Type 0) (xs : List X) → P [] → ((p : ℕ) (x : X) → slice_get xs p ≡ Some x → P (take p xs) → P (take p xs ++ x ∷ [])) → P xs
by_steps P xs start step = by_prefixes P xs (by_moments P xs start step)
