-- Which texts are longer than a script may be.
use Rattle.std.specs.Prelude.{◌≡◌, ◌≢◌, ◌<◌, ◌≤◌, ◌⊎◌, ◌==◌, ℕ, List, ◌∷◌, ◌++◌, length, All, count_by}
use Rattle.script_core.specs.declared.limits.TheConstants.{MAX_LINE, MAX_LINES}

-- how many line feeds there are
abbrev pub line_feeds : List ℕ → ℕ
line_feeds bytes = count_by (λ b. b == 10) bytes

-- bytes of one line, without its line feed
abbrev pub IsOfOneLine : List ℕ → Type 0
IsOfOneLine bytes = All (λ b. b ≢ 10) bytes

-- a line is longer than one may be, without its line feed
pub record HasLongLine (bytes : List ℕ) : Type 0 where
  pub before : List ℕ
  pub line : List ℕ
  pub rest : List ℕ
  pub parts : bytes ≡ before ++ (line ++ rest)
  pub one_line : IsOfOneLine line
  pub long : MAX_LINE < length line

-- a byte stands behind as many line feeds as there may be lines
pub record HasManyLines (bytes : List ℕ) : Type 0 where
  pub before : List ℕ
  pub byte : ℕ
  pub rest : List ℕ
  pub parts : bytes ≡ before ++ byte ∷ rest
  pub many : MAX_LINES ≤ line_feeds before

-- a line is too long, or there is one line too many
abbrev pub PassesLimits : List ℕ → Type 0
PassesLimits bytes = HasLongLine bytes ⊎ HasManyLines bytes

-- the bytes within the limits, and no more than so many that were read with the one that passes them
pub record IsWithinBut (most : ℕ) (bytes : List ℕ) : Type 0 where
  pub within : List ℕ
  pub last : List ℕ
  pub parts : bytes ≡ within ++ last
  pub limits : PassesLimits within → ⊥
  pub few : length last ≤ most
