-- Numbers as words.
use Rattle.std.proofs.Common.{◌≡◌, ◌<◌, ◌≤◌, ◌+◌, ◌-◌, ℕ, zero, suc, List, [], ◌∷◌, map, Result, Ok, subst, arith, get_or, decimal}
use Rattle.std.specs.Str.Parse.{ParsesUnsigned}
use Rattle.std.specs.Int.Digits.{AllBelowBase, digits_of}
use Rattle.std.proofs.lemmas.Int.Digits.{all_below_base_digits_of, first_digits_of}
use Rattle.std.proofs.lemmas.Fmt.{decimal-digits_of, parse-decimal}

-- what is read of the text of a small number is that number
pub parsed : {E : Type 0} (num : ℕ) (word : List ℕ) (r : Result ℕ E) → num ≤ 999999999 → word ≡ decimal num → ParsesUnsigned 32 10 word r → r ≡ Ok num
parsed num word r small is reads = parse-decimal 32 num word r (omega arith) (omega arith) is reads

-- what holds of the nine digits with which numbers begin holds of each of them
pub by_digit : (P : ℕ → Type 0) → P 49 → P 50 → P 51 → P 52 → P 53 → P 54 → P 55 → P 56 → P 57 → (d : ℕ) → 48 < d → d ≤ 57 → P d
by_digit P one two three four five six seven eight nine d above below =
    let is : 49 + (d - 49) ≡ d = omega arith in
    subst P is (at (d - 49) (omega arith))
  where
    at : (k : ℕ) → k < 9 → P (49 + k)
    at zero lt = one
    at (suc zero) lt = two
    at (suc (suc zero)) lt = three
    at (suc (suc (suc zero))) lt = four
    at (suc (suc (suc (suc zero)))) lt = five
    at (suc (suc (suc (suc (suc zero))))) lt = six
    at (suc (suc (suc (suc (suc (suc zero)))))) lt = seven
    at (suc (suc (suc (suc (suc (suc (suc zero))))))) lt = eight
    at (suc (suc (suc (suc (suc (suc (suc (suc zero)))))))) lt = nine
    at (suc (suc (suc (suc (suc (suc (suc (suc (suc k))))))))) lt = absurd (omega arith)

-- the text of a number from 1 on begins with a digit that is not zero
pub record Begins (text : List ℕ) : Type 0 where
  pub digit : ℕ
  pub rest : List ℕ
  pub is : text ≡ digit ∷ rest
  pub above : 48 < digit
  pub below : digit ≤ 57

pub begins : (num : ℕ) → 1 ≤ num → num ≤ 999999999 → Begins (decimal num)
begins num one most = go (digits_of 10 num) (decimal-digits_of num (omega arith) (omega arith)) (all_below_base_digits_of 10 num (omega arith)) (first_digits_of 10 num (omega arith) (omega arith))
  where
    go : (ds : List ℕ) → decimal num ≡ map (λ d. 48 + d) ds → AllBelowBase 10 ds → 0 < get_or ds 0 0 → Begins (decimal num)
    go [] is below first = absurd (omega (arith, first))
    go (d ∷ ds) is below first = record { digit = 48 + d; rest = map (λ e. 48 + e) ds; is = is; above = omega (arith, first); below = omega (arith, below.0) }
