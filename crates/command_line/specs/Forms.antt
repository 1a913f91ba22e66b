-- Which words ask for which form.
use Rattle.std.specs.Prelude.{◌≡◌, ◌≢◌, ◌≤◌, ⊤, ℕ, Bool, true, false, List, [], ◌∷◌, Option, Some, None, codes, decimal}
use Rattle.command_line.specs.declared.form.Form.{Form}
use Rattle.command_line.specs.declared.form.Form.TheVariants.{Run, Serial, Journal, Make, Load, Help, Version}

-- the greatest number of which a script is made
abbrev pub most_num : ℕ
most_num = 999999999

-- the flag for the trails, where it is asked for
abbrev pub trail_flag : Bool → List (List ℕ)
trail_flag true = codes "--trail" ∷ []
trail_flag false = []

-- the words that spell a form; numbers are decimal, with no sign and no zero in front
abbrev pub spelled : Form → List (List ℕ)
spelled (Run trail) = codes "run" ∷ trail_flag trail
spelled (Serial trail) = codes "serial" ∷ trail_flag trail
spelled Journal = codes "journal" ∷ []
spelled (Make num) = codes "make" ∷ decimal num ∷ []
spelled (Load num) = codes "load" ∷ decimal num ∷ []
spelled Help = codes "--help" ∷ []
spelled Version = codes "--version" ∷ []

-- a form that the program knows: a made script has a number from 1 to the greatest
abbrev pub IsForm : Form → Type 0
IsForm (Make num) = (1 ≤ num) × (num ≤ most_num)
IsForm (Load num) = (1 ≤ num) × (num ≤ most_num)
IsForm _ = ⊤

-- a form that is a command of the program with a name of its own
abbrev pub IsCommand : Form → Type 0
IsCommand Help = ⊥
IsCommand Version = ⊥
IsCommand form = IsForm form

-- the form that words spell, where they spell one
abbrev pub IsFormOf : List (List ℕ) → Option Form → Type 0
IsFormOf words (Some form) = IsForm form × (words ≡ spelled form)
IsFormOf words None = (form : Form) → IsForm form → words ≢ spelled form

-- how `clap` tells whether a flag was used
abbrev pub flag_text : Bool → List ℕ
flag_text true = codes "true"
flag_text false = codes "false"
