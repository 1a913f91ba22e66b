-- The members of a range of numbers, and what is joined over one.
use Rattle.std.proofs.Common.{◌≡◌, ℕ, zero, suc, ◌+◌, ◌-◌, ◌≤◌, ◌<◌, inl, inr, ⊎_elim, List, [], ◌∷◌, ◌++◌, sym, ap, ◌∙◌, arith}
use Rattle.std.specs.Prelude.{flat_map}
use Rattle.std.specs.List.{range_with_len}
use Rattle.std.proofs.lemmas.Bool.{cases_lt}
use Rattle.std.proofs.lemmas.List.{append-nil}
use Rattle.std.proofs.lemmas.Grind.{flat_map-append}
use Rattle.list_core.specs.Members.{In}

-- a number from the first on, below the end, is one of the range
pub In_range : (first count k : ℕ) → first ≤ k → k < first + count → In k (range_with_len first count)
In_range first zero k low high = absurd (omega (arith, low, high))
In_range first (suc count) k low high = ⊎_elim (λ lt. inr (In_range (first + 1) count k (omega (arith, lt)) (omega (arith, high)))) (λ le. inl (omega (arith, le, low))) (cases_lt first k)

-- a number of the range is from the first on, below the end
pub In_from_range : (first count k : ℕ) → In k (range_with_len first count) → (first ≤ k) × (k < first + count)
In_from_range first zero k i = absurd i
In_from_range first (suc count) k (inl same) = (omega (arith, same), omega (arith, same))
In_from_range first (suc count) k (inr i) = let r = In_from_range (first + 1) count k i in (omega (arith, r.0), omega (arith, r.1))

-- one number more is the last
range_more : (first count : ℕ) → range_with_len first (suc count) ≡ range_with_len first count ++ (first + count) ∷ []
range_more first zero = ap (λ n. n ∷ []) (omega arith)
range_more first (suc count) = ap (λ l. first ∷ l) (range_more (first + 1) count ∙ ap (λ n. range_with_len (first + 1) count ++ n ∷ []) (omega arith))

-- what is joined over the numbers below one, and over it
pub joined_more : {X : Type 0} (f : ℕ → List X) (k : ℕ) → 1 ≤ k → flat_map f (range_with_len 1 (k - 1)) ++ f k ≡ flat_map f (range_with_len 1 (k + 1 - 1))
joined_more f zero low = absurd (omega (arith, low))
joined_more f (suc i) low =
    let before : suc i - 1 ≡ i = omega arith in
    let now : suc i + 1 - 1 ≡ suc i = omega arith in
    let last : 1 + i ≡ suc i = omega arith in
    ap (λ k. flat_map f (range_with_len 1 k) ++ f (suc i)) before
    ∙ (ap (λ l. flat_map f (range_with_len 1 i) ++ l) (sym (append-nil (f (suc i))))
    ∙ (sym (flat_map-append f (range_with_len 1 i) (suc i ∷ []))
    ∙ (ap (λ k. flat_map f (range_with_len 1 i ++ k ∷ [])) (sym last)
    ∙ (ap (flat_map f) (sym (range_more 1 i)) ∙ ap (λ k. flat_map f (range_with_len 1 k)) (sym now)))))
