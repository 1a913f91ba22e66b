-- Bytes as they are shown to a user.
use Rattle.std.specs.Prelude.{◌+◌, ◌/◌, ◌%◌, ◌&&◌, ◌++◌, ℕ, Bool, nat_le, nat_lt, List, [], ◌∷◌, length, take, flat_map, codes, if◌then◌else◌}
use Rattle.script_advice.specs.declared.shown.TheConstants.{MOST_SHOWN}

-- printable ASCII
abbrev pub is_printable : ℕ → Bool
is_printable b = nat_le 32 b && nat_le b 126

-- the hexadecimal digit of a number below 16: 0 to 9 and a to f
abbrev pub digit : ℕ → ℕ
digit n = if nat_lt n 10 then 48 + n else 87 + n

-- a byte as it is shown: itself where it is printable, and else `\x` and its two digits
abbrev pub shown_byte : ℕ → List ℕ
shown_byte b = if is_printable b then b ∷ [] else 92 ∷ 120 ∷ digit (b / 16) ∷ digit (b % 16) ∷ []

-- bytes, each as it is shown
abbrev pub escaped : List ℕ → List ℕ
escaped bytes = flat_map shown_byte bytes

-- the first bytes so, and `...` where there are more
abbrev pub shown : List ℕ → List ℕ
shown bytes = if nat_lt MOST_SHOWN (length bytes) then escaped (take MOST_SHOWN bytes) ++ codes "..." else escaped bytes
