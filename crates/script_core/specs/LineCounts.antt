-- What a count of lines says of the bytes that were seen.
use Rattle.std.specs.Prelude.{◌≡◌, ◌≤◌, ℕ, List, ◌++◌, length}
use Rattle.script_core.specs.Limits.{line_feeds, IsOfOneLine, PassesLimits}
use Rattle.script_core.specs.declared.limits.LineCount.{LineCount}
use Rattle.script_core.specs.declared.limits.LineCount.TheVariants.{Within, Past}

-- the bytes are within the limits, have so many line feeds, and end in a line of so many bytes
pub record HasLines (feeds column : ℕ) (seen : List ℕ) : Type 0 where
  pub feed_count : line_feeds seen ≡ feeds
  pub before : List ℕ
  pub line : List ℕ
  pub parts : seen ≡ before ++ line
  pub one_line : IsOfOneLine line
  pub line_length : length line ≡ column
  pub longest : (front tail : List ℕ) → seen ≡ front ++ tail → IsOfOneLine tail → length tail ≤ column
  pub limits : PassesLimits seen → ⊥

-- the count is that of these bytes
abbrev pub Counts : LineCount → List ℕ → Type 0
Counts (Within feeds column) seen = HasLines feeds column seen
Counts Past seen = PassesLimits seen
