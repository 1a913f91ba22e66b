-- Which bytes are a script, and of all others the first line at fault and why.
use Rattle.std.specs.Prelude.{◌+◌, ℕ, List, [], ◌∷◌, Option, Some, None, Result, Ok, Err}
use Rattle.std.specs.Option.{unwrap_or}
use Rattle.ids_core.specs.declared.limits.TheConstants.{MOST_RECORDS}
use Rattle.script_core.specs.declared.script.TheConstants.{DEFAULT_CACHE, DEFAULT_THREADS, DEFAULT_ROUNDS}
use Rattle.script_core.specs.declared.script.Header.{Header}
use Rattle.script_core.specs.declared.script.Script.{Script}
use Rattle.script_core.specs.declared.steps.Step.{Step}
use Rattle.script_core.specs.Lines.{lines_of}
use Rattle.script_reader.specs.declared.fault.Cause.TheVariants as cause
use Rattle.script_reader.specs.declared.fault.ScriptFault.{ScriptFault}
use Rattle.script_reader.specs.declared.fault.ScriptFault.TheVariants.{Refused}
use Rattle.script_reader.specs.declared.reading.Reading.{Reading}
use Rattle.script_reader.specs.Readings.{nothing_read, header_in}
use Rattle.script_reader.specs.Lines.{line_taken}

-- the script with this header of which this was read
abbrev pub script_with : Header → Reading → Script
script_with header reading = record {
  n = header.n;
  k = header.k;
  clients = header.clients;
  cache = unwrap_or reading.cache DEFAULT_CACHE;
  limit = unwrap_or reading.limit MOST_RECORDS;
  threads = unwrap_or reading.threads DEFAULT_THREADS;
  rounds = unwrap_or reading.rounds DEFAULT_ROUNDS;
  taps = reading.taps;
  sections = reading.sections;
}

-- what ends before the line of this number outside of all phases, or in a phase that is not complete
abbrev pub ended_in : Option (List Step) → Header → ℕ → Reading → Result Script ScriptFault
ended_in None header number reading = Ok (script_with header reading)
ended_in (Some steps) header number reading = Err (Refused number cause.Place)

-- what ends before the line of this number: a script, or a header or a phase that is not complete
abbrev pub ended : Option Header → ℕ → Reading → Result Script ScriptFault
ended (Some header) number reading = ended_in reading.phase header number reading
ended None number reading = Err (Refused number cause.Place)

-- the script that these lines and those before them are, the first of these having this number, or the first of
-- them at fault
abbrev pub lines_read : ℕ → Reading → List (List ℕ) → Result Script ScriptFault
lines_read number reading [] = ended (header_in reading) number reading
lines_read number reading (line ∷ lines) = elim (line_taken reading number line) [ Ok more ↦ lines_read (number + 1) more lines | Err why ↦ Err (Refused number why) ]

-- the script that bytes are, or the first line at fault and why it is refused
unfoldable pub script_read : List ℕ → Result Script ScriptFault
script_read bytes = lines_read 1 nothing_read (lines_of bytes)
