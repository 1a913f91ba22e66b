-- Digits and the number that they write.
use Rattle.std.proofs.Common.{◌≡◌, ◌≤◌, ◌<◌, ◌+◌, ◌*◌, ◌-◌, ◌^◌, ℕ, zero, suc, true, List, [], ◌∷◌, length, get_or, arith, leb-true}
use Rattle.std.specs.List.{list_all}
use Rattle.std.proofs.lemmas.Bool.{and_parts}
use Rattle.std.proofs.Math.Nat.{pow-le-pow_right}
use Rattle.std.proofs.lemmas.Grind.{pow_more}
use Rattle.script_reader.specs.Numbers.{is_digit}

-- a digit is from 48 to 57
digit_range : (b : ℕ) → is_digit b ≡ true → (48 ≤ b) × (b ≤ 57)
digit_range b h = let parts = and_parts _ _ h in (leb-true 48 b parts.0, leb-true b 57 parts.1)

-- so is each of a list of these
pub digit_at : (word : List ℕ) (i : ℕ) → list_all is_digit word ≡ true → i < length word → (48 ≤ get_or word i 0) × (get_or word i 0 ≤ 57)
digit_at [] i all within = absurd (omega arith)
digit_at (b ∷ bs) zero all within = digit_range b (and_parts _ _ all).0
digit_at (b ∷ bs) (suc i) all within = digit_at bs i (and_parts _ _ all).1 (omega arith)

-- a number of at most 18 digits, and one digit more behind them, fit 64 bits
pub number_fits : (n i : ℕ) → n < 10 ^ i → i < 19 → n < 10 ^ 18
number_fits n i below few = let most = pow-le-pow_right {n = 10} (omega arith) {i = i} {j = 18} (omega arith) in omega arith

-- it stays below a power of 10
pub number_below : (n i digit : ℕ) → n < 10 ^ i → 48 ≤ digit → digit ≤ 57 → n * 10 + (digit - 48) < 10 ^ (i + 1)
number_below n i digit below low high = let more = pow_more 10 i in omega arith
