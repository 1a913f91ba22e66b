-- What a user is told of an input that is no script.
use Rattle.std.specs.Prelude.{◌≡◌, ◌-◌, ◌++◌, ◌==◌, ◌||◌, ℕ, Bool, true, false, List, [], ◌∷◌, drop, length, codes, decimal, if◌then◌else◌}
use Rattle.script_core.specs.Lines.{lines_of}
use Rattle.script_reader.specs.declared.fault.Cause.{Cause}
use Rattle.script_reader.specs.declared.fault.Cause.TheVariants.{Many}
use Rattle.script_reader.specs.Words.{without_return}
use Rattle.script_advice.specs.Shown.{escaped, shown}

-- the first of some lines, and no bytes where there is none
abbrev pub first_of : List (List ℕ) → List ℕ
first_of [] = []
first_of (line ∷ lines) = line

-- the line of a number, counted from 1, and no bytes where the input ends before it
abbrev pub line_at : List ℕ → ℕ → List ℕ
line_at input number = first_of (drop (number - 1) (lines_of input))

-- the line is one too many
abbrev pub is_many : Cause → Bool
is_many Many = true
is_many _ = false

-- a line that is told, four spaces in and without the carriage return that may end it; nothing where it has no bytes, or is one
-- too many
abbrev pub line_told : List ℕ → Cause → List ℕ
line_told line cause = if length line == 0 || is_many cause then [] else codes "\n    " ++ shown (without_return line)

-- the advice on a line: its number, in printable ASCII alone a reason, and then the line itself
pub record IsAdvice (input : List ℕ) (number : ℕ) (cause : Cause) (text : List ℕ) : Type 0 where
  pub reason : List ℕ
  pub parts : text ≡ codes "line " ++ decimal number ++ codes ": " ++ escaped reason ++ line_told (line_at input number) cause
