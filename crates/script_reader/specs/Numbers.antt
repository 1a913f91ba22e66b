-- Numbers and deltas, as a script spells them.
use Rattle.std.specs.Prelude.{◌+◌, ◌-◌, ◌*◌, ◌==◌, ◌&&◌, ◌||◌, ℕ, ℤ, pos, neg_ℤ, Bool, not, nat_le, nat_lt, List, length, drop, fold, slice_index, Result, Ok, Err, if◌then◌else◌}
use Rattle.std.specs.List.{list_all}
use Rattle.ids_core.specs.declared.limits.TheConstants.{MOST_DELTA}
use Rattle.script_reader.specs.declared.fault.Cause.{Cause}
use Rattle.script_reader.specs.declared.fault.Cause.TheVariants.{Number, Range}

-- 0 to 9
abbrev pub is_digit : ℕ → Bool
is_digit b = nat_le 48 b && nat_le b 57

-- 1 to 19 digits, the first of which is 0 in `0` alone
abbrev pub is_number : List ℕ → Bool
is_number word = list_all is_digit word && (nat_lt 0 (length word) && (nat_lt (length word) 20 && (length word == 1 || not (slice_index word 0 == 48))))

-- the number that digits write
abbrev pub number_of : List ℕ → ℕ
number_of word = fold (λ n b. n * 10 + (b - 48)) 0 word

-- the number that a word says, which has to be from a least to a most
unfoldable pub number_in : ℕ → ℕ → List ℕ → Result ℕ Cause
number_in least most word =
    if is_number word then (if nat_le least (number_of word) && nat_le (number_of word) most then Ok (number_of word) else Err Range) else Err Number

-- the number behind a minus, below 0
abbrev pub below_zero : Result ℕ Cause → Result ℤ Cause
below_zero (Ok n) = if n == 0 then Err Number else Ok (neg_ℤ (pos n))
below_zero (Err cause) = Err cause

-- a number from 0 on
abbrev pub from_zero : Result ℕ Cause → Result ℤ Cause
from_zero (Ok n) = Ok (pos n)
from_zero (Err cause) = Err cause

-- the delta that a word says: a number, or a minus and a number other than 0, and not too far from 0
unfoldable pub delta_in : List ℕ → Result ℤ Cause
delta_in word = if slice_index word 0 == 45 then below_zero (number_in 0 MOST_DELTA (drop 1 word)) else from_zero (number_in 0 MOST_DELTA word)
