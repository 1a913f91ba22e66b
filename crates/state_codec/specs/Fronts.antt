-- The value with which bytes begin.
use Rattle.std.specs.Prelude.{◌≡◌, ◌++◌, ℕ, List, length, drop, Option, Some, IfSome}

-- What was found is the one value of which this holds and with whose bytes the bytes begin, and how many it has; there is none
-- where they begin with those of none.
pub record IsFront {A : Type 0} (Is : A → Type 0) (spelling : A → List ℕ) (bytes : List ℕ) (found : Option (A × ℕ)) : Type 0 where
  pub only : (x : A) (rest : List ℕ) → Is x → bytes ≡ spelling x ++ rest → found ≡ Some (x, length (spelling x))
  pub fits : IfSome found (λ p. Is p.0)
  pub is : IfSome found (λ p. bytes ≡ spelling p.0 ++ drop p.1 bytes)
  pub count : IfSome found (λ p. p.1 ≡ length (spelling p.0))
