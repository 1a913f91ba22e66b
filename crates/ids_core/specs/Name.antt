-- Which bytes are a name.
use Rattle.std.specs.Prelude.{◌≡◌, ◌≤◌, ◌⊎◌, ℕ, List, length, All}

-- a to z, 0 to 9 and _
abbrev pub IsNameByte : ℕ → Type 0
IsNameByte b = ((97 ≤ b) × (b ≤ 122)) ⊎ ((48 ≤ b) × (b ≤ 57)) ⊎ (b ≡ 95)

-- 1 to 32 such bytes
pub record IsName (bytes : List ℕ) : Type 0 where
  pub some : 1 ≤ length bytes
  pub most : length bytes ≤ 32
  pub each : All IsNameByte bytes
