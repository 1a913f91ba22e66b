-- The bytes of a number, and what is found at the front of bytes.
use Rattle.std.specs.Prelude.{◌≡◌, ◌++◌, ℕ, List, length, drop, Option, Some, IfSome}
use Rattle.std.specs.Int.{w64, to_be_bytes}

-- a number of 64 bits, its highest byte first
abbrev pub number_bytes : ℕ → List ℕ
number_bytes n = to_be_bytes w64 n

-- what was found is that with whose bytes these begin, and how many it has; none where they begin with none
pub record IsFront {X : Type 0} (spelled : X → List ℕ) (bytes : List ℕ) (found : Option (X × ℕ)) : Type 0 where
  pub only : (x : X) (rest : List ℕ) → bytes ≡ spelled x ++ rest → found ≡ Some (x, length (spelled x))
  pub is : IfSome found (λ p. bytes ≡ spelled p.0 ++ drop p.1 bytes)
  pub count : IfSome found (λ p. p.1 ≡ length (spelled p.0))
