-- Numbers in decimal and words, as the grammar of scripts reads them.
use Rattle.std.proofs.Common.{◌≡◌, ◌≤◌, ◌<◌, ◌+◌, ◌*◌, ◌-◌, ◌/◌, ◌%◌, ◌^◌, ℕ, suc, true, Bool, List, [], ◌∷◌, ◌++◌, length, get_or, refl, ap, ◌∙◌, arith, le-leb, Ok, Err, pos, drop}
use Rattle.std.specs.Prelude.{◌&&◌, ◌==◌, cond, decimal, nat_le, not, slice_index}
use Rattle.std.specs.List.{list_all}
use Rattle.std.proofs.lemmas.Bool.{and_parts, and_from, ne_eqb, or_left, or_right}
use Rattle.std.proofs.lemmas.Fmt.{decimal_by_steps, length-decimal-le, first_decimal, decimal_nonempty}
use Rattle.std.proofs.lemmas.List.Folds.{list_all-append}
use Rattle.std.proofs.lemmas.List.Sums.{fold_push}
use Rattle.ids_core.specs.declared.limits.TheConstants.{MOST_DELTA}
use Rattle.script_reader.specs.declared.fault.Cause.TheVariants.{Number, Range}
use Rattle.script_reader.specs.Numbers.{is_digit, is_number, number_of, number_in, delta_in, from_zero, below_zero}
use Rattle.script_reader.specs.Names.{is_name, is_name_byte}

-- what passes a test in two lists passes it in both together
pub all_append : (test : ℕ → Bool) (xs ys : List ℕ) → list_all test xs ≡ true → list_all test ys ≡ true → list_all test (xs ++ ys) ≡ true
all_append test xs ys front rest = list_all-append test xs ys ∙ and_from _ _ front rest

-- what each digit passes, each byte of a list of digits passes
pub digits_pass : (test : ℕ → Bool) (ds : List ℕ) → ((b : ℕ) → is_digit b ≡ true → test b ≡ true) → list_all is_digit ds ≡ true → list_all test ds ≡ true
digits_pass test [] each all = refl
digits_pass test (d ∷ ds) each all = let parts = and_parts _ _ all in and_from _ _ (each d parts.0) (digits_pass test ds each parts.1)

-- digits that say a number
record Says (n : ℕ) (ds : List ℕ) : Type 0 where
  digits : list_all is_digit ds ≡ true
  number : number_of ds ≡ n

digit_test : (r : ℕ) → r < 10 → is_digit (48 + r) ≡ true
digit_test r below = and_from _ _ (le-leb 48 (48 + r) (omega arith)) (le-leb (48 + r) 57 (omega arith))

says_decimal : (n : ℕ) → n < 2 ^ 64 → Says n (decimal n)
says_decimal = decimal_by_steps Says one more
  where
    one : (n : ℕ) → n < 10 → Says n ((48 + n) ∷ [])
    one n below = record { digits = and_from _ _ (digit_test n below) refl; number = omega arith }

    more : (n : ℕ) (ds : List ℕ) → 10 ≤ n → Says (n / 10) ds → Says n (ds ++ ((48 + n % 10) ∷ []))
    more n ds some front = record {
      digits = all_append is_digit ds ((48 + n % 10) ∷ []) front.digits (and_from _ _ (digit_test (n % 10) (omega arith)) refl);
      number = fold_push (λ n b. n * 10 + (b - 48)) 0 ds (48 + n % 10) ∙ ap (λ m. m * 10 + (48 + n % 10 - 48)) front.number ∙ omega arith;
    }

-- decimal digits are digits
pub decimal_digits : (n : ℕ) → n < 2 ^ 64 → list_all is_digit (decimal n) ≡ true
decimal_digits n small = (says_decimal n small).digits

-- a number from 1 on is spelled in decimal
pub number_decimal : (n : ℕ) → 1 ≤ n → n < 1000000 → is_number (decimal n) ≡ true
number_decimal n low small =
    let wide : n < 2 ^ 64 = omega arith in
    let some = decimal_nonempty n wide in
    let short = length-decimal-le 6 n (omega arith) (omega arith) wide in
    let first = first_decimal n (omega arith) wide in
    and_from _ _ (decimal_digits n wide)
    (and_from _ _ (le-leb 1 (length (decimal n)) some) (and_from _ _ (le-leb (suc (length (decimal n))) 20 (omega arith)) (or_right (length (decimal n) == 1) (not (slice_index (decimal n) 0 == 48)) (ap not (ne_eqb (get_or (decimal n) 0 0) 48 (λ is. absurd (omega (arith, first, is))))))))

-- it is read as what it is
pub number_read : (least most n : ℕ) → 1 ≤ n → n < 1000000 → least ≤ n → n ≤ most → number_in least most (decimal n) ≡ Ok n
unfolding number_in
number_read least most n low small above below =
    let wide : n < 2 ^ 64 = omega arith in
    ap (λ b. cond b (cond (nat_le least (number_of (decimal n)) && nat_le (number_of (decimal n)) most) (Ok (number_of (decimal n))) (Err Range)) (Err Number)) (number_decimal n low small)
    ∙ ap (λ m. cond (nat_le least m && nat_le m most) (Ok m) (Err Range)) (says_decimal n wide).number
    ∙ ap (λ b. cond b (Ok n) (Err Range)) (and_from _ _ (le-leb least n above) (le-leb n most below))

-- so is it as a delta
pub delta_read : (n : ℕ) → 1 ≤ n → n < 1000000 → delta_in (decimal n) ≡ Ok (pos n)
unfolding delta_in
delta_read n low small =
    let wide : n < 2 ^ 64 = omega arith in
    let first = first_decimal n (omega arith) wide in
    ap (λ b. cond b (below_zero (number_in 0 MOST_DELTA (drop 1 (decimal n)))) (from_zero (number_in 0 MOST_DELTA (decimal n)))) (ne_eqb (get_or (decimal n) 0 0) 45 (λ is. absurd (omega (arith, first, is))))
    ∙ ap from_zero (number_read 0 MOST_DELTA n low small (omega arith) (omega arith))

-- a letter and a number are a name
pub name_read : (letter n : ℕ) → is_name_byte letter ≡ true → n < 1000000 → is_name (letter ∷ decimal n) ≡ true
name_read letter n named small =
    let wide : n < 2 ^ 64 = omega arith in
    let short = length-decimal-le 6 n (omega arith) (omega arith) wide in
    and_from _ _ (and_from _ _ named (digits_pass is_name_byte (decimal n) digit_named (decimal_digits n wide)))
    (and_from _ _ (le-leb 1 (length (letter ∷ decimal n)) (omega arith)) (le-leb (length (letter ∷ decimal n)) 32 (omega arith)))
  where
    digit_named : (b : ℕ) → is_digit b ≡ true → is_name_byte b ≡ true
    digit_named b is = or_right (nat_le 97 b && nat_le b 122) _ (or_left _ (b == 95) is)
