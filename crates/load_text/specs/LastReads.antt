-- What is written of a load: the values that are read behind its last phase.
use Rattle.std.specs.Prelude.{ℕ, ◌+◌, ◌&&◌, Bool, true, false, nat_lt, cond, List, [], ◌∷◌, ◌++◌, map, filter}
use Rattle.vv_core.specs.Vectors.{most}
use Rattle.dc_talk.specs.declared.line.Line.{Line}
use Rattle.dc_talk.specs.declared.line.Line.TheVariants.{ReadValue}
use Rattle.dc_talk.specs.declared.log.Deed.{Deed}
use Rattle.dc_talk.specs.declared.log.Deed.TheVariants.{Told}
use Rattle.dc_talk.specs.declared.log.Note.{Note}
use Rattle.dc_talk.specs.Logs.{Logged}
use Rattle.script_core.specs.declared.script.Script.{Script}
use Rattle.script_core.specs.declared.steps.Section.{Section}
use Rattle.print_text.specs.Text.{text_of}

-- the numbers of the phases among sections of which the first has this number
abbrev pub phases_from : ℕ → List Section → List ℕ
phases_from number [] = []
phases_from number (section ∷ sections) = cond section.phase (number ∷ []) [] ++ phases_from (number + 1) sections

-- the number of the last section of a script that is a phase, counted from 1, and 0 where there is none
abbrev pub last_phase : Script → ℕ
last_phase script = most (phases_from 1 script.sections)

-- whether a line tells the value of a read
abbrev pub is_value : Line → Bool
is_value (ReadValue client object value) = true
is_value _ = false

-- whether a deed is such a line
abbrev pub tells_value : Deed → Bool
tells_value (Told line) = is_value line
tells_value _ = false

-- whether a note tells the value of a read of a section behind this one
abbrev pub is_later_value : ℕ → Note → Bool
is_later_value last note = nat_lt last note.section && tells_value note.deed

-- the log of the same actor with those notes alone, at no step
abbrev pub later_values : ℕ → Logged → Logged
later_values last log = record { actor = log.actor; section = 0; step = 0; notes = filter (is_later_value last) log.notes }

-- the text of a load: of the lines of the logs those alone that tell the values of the reads behind the last phase
abbrev pub load_text : Script → List Logged → List ℕ
load_text script logs = text_of (map (later_values (last_phase script)) logs)
