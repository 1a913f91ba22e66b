-- Lines that are read one after another.
use Rattle.std.proofs.Common.{◌≡◌, ◌≤◌, ◌+◌, ℕ, Bool, true, false, List, ◌∷◌, refl, ap, sym, ◌∙◌}
use Rattle.std.specs.Prelude.{nat_lt, Option, Result, Ok, Err}
use Rattle.std.proofs.lemmas.Bool.{ltb-false, cond-true}
use Rattle.script_core.specs.declared.limits.TheConstants.{MAX_LINES}
use Rattle.script_core.specs.declared.script.Header.{Header}
use Rattle.script_core.specs.declared.script.Script.{Script}
use Rattle.script_reader.specs.declared.fault.Cause.TheVariants.{Many}
use Rattle.script_reader.specs.declared.fault.ScriptFault.{ScriptFault}
use Rattle.script_reader.specs.declared.fault.ScriptFault.TheVariants.{Refused}
use Rattle.script_reader.specs.declared.reading.Reading.{Reading}
use Rattle.script_reader.specs.Rows.{row_in}
use Rattle.script_reader.specs.Readings.{header_in}
use Rattle.script_reader.specs.Lines.{taken, line_taken}
use Rattle.script_reader.specs.Scripts.{lines_read}

-- a line that comes too late is refused
too_late : (header : Option Header) (number : ℕ) (line : List ℕ) → nat_lt MAX_LINES number ≡ true → row_in header number line ≡ Err Many
unfolding row_in
too_late header number line late = cond-true _ _ _ late

-- a line that is taken is not
pub line_in_time : (reading more : Reading) (number : ℕ) (line : List ℕ) → line_taken reading number line ≡ Ok more → number ≤ MAX_LINES
line_in_time reading more number line is = go (nat_lt MAX_LINES number) refl
  where
    go : (late : Bool) → nat_lt MAX_LINES number ≡ late → number ≤ MAX_LINES
    go true late = absurd (let bad : Err Many ≡ Ok more = sym (ap (taken reading) (too_late (header_in reading) number line late)) ∙ is in cc)
    go false late = ltb-false MAX_LINES number late

-- behind a line that is taken the others are read
pub read_on : (read : Result Script ScriptFault) (number : ℕ) (reading more : Reading) (line : List ℕ) (rest lines : List (List ℕ)) → read ≡ lines_read number reading rest → rest ≡ line ∷ lines → line_taken reading number line ≡ Ok more → read ≡ lines_read (number + 1) more lines
read_on read number reading more line rest lines is cut taken = is ∙ (ap (lines_read number reading) cut ∙ ap (λ t. elim t [ Ok next ↦ lines_read (number + 1) next lines | Err why ↦ Err (Refused number why) ]) taken)
