-- Different values in a short range.
use Rattle.std.proofs.Common.{◌≡◌, ℕ, zero, suc, ◌≤◌, ◌<◌, cond, eqb, ◌⊎◌, inl, inr, ⊎_elim, sym, ap, ◌∙◌, arith}
use Rattle.std.proofs.lemmas.Bool.{cases_lt, cases_eq, eq-eqb, ne_eqb}

-- v makes way for w
abbrev swapped : ℕ → ℕ → ℕ → ℕ
swapped v w x = cond (eqb x v) w x

swapped_is : (v w x : ℕ) → ((x ≡ v) × (swapped v w x ≡ w)) ⊎ ((x ≡ v → ⊥) × (swapped v w x ≡ x))
swapped_is v w x = ⊎_elim (λ e. inl (e, ap (λ b. cond b w x) (eq-eqb x v e))) (λ d. inr (d, ap (λ b. cond b w x) (ne_eqb x v d))) (cases_eq x v)

-- f takes h + 1 different values in 1 to n only where h is below n
pub pigeons : (n h : ℕ) (f : ℕ → ℕ) → ((k : ℕ) → k ≤ h → (1 ≤ f k) × (f k ≤ n)) → ((j k : ℕ) → j < k → k ≤ h → f j ≡ f k → ⊥) → h < n
pigeons zero h f range apart = absurd (let r = range 0 (omega arith) in omega (arith, r.0, r.1))
pigeons (suc n) zero f range apart = omega arith
pigeons (suc n) (suc h) f range apart = let r : h < n = pigeons n h (λ k. swapped (suc n) (f (suc h)) (f k)) in_range differ in omega (arith, r)
  where
    last : (k : ℕ) → k ≤ h → f k ≡ f (suc h) → ⊥
    last k le = apart k (suc h) (omega (arith, le)) (omega arith)

    in_range : (k : ℕ) → k ≤ h → (1 ≤ swapped (suc n) (f (suc h)) (f k)) × (swapped (suc n) (f (suc h)) (f k) ≤ n)
    in_range k le = ⊎_elim there other (swapped_is (suc n) (f (suc h)) (f k))
      where
        there : (f k ≡ suc n) × (swapped (suc n) (f (suc h)) (f k) ≡ f (suc h)) → (1 ≤ swapped (suc n) (f (suc h)) (f k)) × (swapped (suc n) (f (suc h)) (f k) ≤ n)
        there (e, s) =
            let r = range (suc h) (omega arith) in
            ⊎_elim (λ lt. (omega (arith, s, r.0), omega (arith, s, lt))) (λ ge. absurd (last k le (omega (arith, e, r.1, ge)))) (cases_lt (f (suc h)) (suc n))

        other : (f k ≡ suc n → ⊥) × (swapped (suc n) (f (suc h)) (f k) ≡ f k) → (1 ≤ swapped (suc n) (f (suc h)) (f k)) × (swapped (suc n) (f (suc h)) (f k) ≤ n)
        other (d, s) =
            let r = range k (omega (arith, le)) in
            ⊎_elim (λ lt. (omega (arith, s, r.0), omega (arith, s, lt))) (λ ge. absurd (d (omega (arith, r.1, ge)))) (cases_lt (f k) (suc n))

    differ : (j k : ℕ) → j < k → k ≤ h → swapped (suc n) (f (suc h)) (f j) ≡ swapped (suc n) (f (suc h)) (f k) → ⊥
    differ j k lt le e = ⊎_elim (λ a. ⊎_elim (λ b. apart j k lt (omega (arith, le)) (a.0 ∙ sym b.0)) (λ b. last k le (sym (sym a.1 ∙ e ∙ b.1))) (swapped_is (suc n) (f (suc h)) (f k))) (λ a. ⊎_elim (λ b. last j (omega (arith, lt, le)) (sym a.1 ∙ e ∙ b.1)) (λ b. apart j k lt (omega (arith, le)) (sym a.1 ∙ e ∙ b.1)) (swapped_is (suc n) (f (suc h)) (f k))) (swapped_is (suc n) (f (suc h)) (f j))
