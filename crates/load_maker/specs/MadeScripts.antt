-- What a made script is in the grammar of scripts.
use Rattle.std.specs.Prelude.{ℕ, zero, suc, List, [], ◌∷◌, ◌++◌, map, Option, Some, None}
use Rattle.std.specs.List.{filter_map}
use Rattle.ids_core.specs.declared.limits.TheConstants.{MOST_RECORDS}
use Rattle.script_core.specs.declared.script.TheConstants.{DEFAULT_CACHE}
use Rattle.script_core.specs.declared.script.Script.{Script}
use Rattle.script_core.specs.declared.steps.Section.{Section}
use Rattle.script_core.specs.declared.steps.Step.{Step}
use Rattle.script_core.specs.Rows.{phase_of, section_of}
use Rattle.script_reader.specs.declared.row.Row.{Row}
use Rattle.script_reader.specs.declared.row.Row.TheVariants.{Does}
use Rattle.load_maker.specs.declared.line.Line.{Line}
use Rattle.load_maker.specs.Made.{ending, lines_made, phase, phases, state_behind, within}
use Rattle.load_maker.specs.Rows.{row_meant}

-- the step that a line says, where it says one
abbrev pub step_meant : Row → Option Step
step_meant (Does step) = Some step
step_meant row = None

-- the steps that lines say
abbrev pub steps_meant : List Line → List Step
steps_meant lines = filter_map (λ line. step_meant (row_meant line)) lines

-- so many phases as sections, by the state of the generator before them
abbrev pub phase_sections : ℕ → ℕ → ℕ → ℕ → List Section
phase_sections turns clients zero state = []
phase_sections turns clients (suc many) state = phase_of (steps_meant (lines_made (within turns clients) state)) ∷ phase_sections turns clients many (state_behind (phase turns clients) state)

-- what is done behind phases, each step a section of its own
abbrev pub last_sections : ℕ → ℕ → List Section
last_sections clients state = map section_of (steps_meant (lines_made (ending clients) state))

-- the sections of a script of so many clients and phases, with so many transactions of a client in a phase
abbrev pub sections_made : ℕ → ℕ → ℕ → ℕ → List Section
sections_made turns clients many state = phase_sections turns clients many state ++ last_sections clients (state_behind (phases turns clients many) state)

-- the script that a number stands for, as it is read: of 100 clients in 5 phases, with 10 transactions of each in a phase
abbrev pub script_made : ℕ → Script
script_made num = record {
  n = 3;
  k = 2;
  clients = 100;
  cache = DEFAULT_CACHE;
  limit = MOST_RECORDS;
  threads = 4;
  rounds = 32;
  taps = [];
  sections = sections_made 10 100 5 num;
}
