-- The header of a script, and the ranges of what it says.
use Rattle.std.specs.Prelude.{◌≤◌, All, length}
use Rattle.script_core.specs.Taps.{AreTaps, IsOnTap}
use Rattle.ids_core.specs.declared.limits.TheConstants.{MOST_CACHED, MOST_RECORDS}
use Rattle.script_core.specs.Steps.{IsCount, IsHeader}
use Rattle.script_core.specs.Rows.{IsSection}
use Rattle.script_core.specs.declared.limits.TheConstants.{MAX_LINES}
use Rattle.script_core.specs.declared.script.Header.{Header}
use Rattle.script_core.specs.declared.script.Script.{Script}
use Rattle.script_core.specs.declared.script.TheConstants.{MOST_THREADS, MOST_ROUNDS}

-- what the first two lines of a script say
abbrev pub header_of : Script → Header
header_of script = record { n = script.n; k = script.k; clients = script.clients }

-- the numbers of a script are in their ranges, each section is a phase or one step, of its clients and its operator,
-- there are no more sections than lines, and what is fed and looked at is on a tap
pub record IsInRange (script : Script) : Type 0 where
  pub header : IsHeader (header_of script)
  pub cache : IsCount MOST_CACHED script.cache
  pub limit : IsCount MOST_RECORDS script.limit
  pub sections : All (IsSection (header_of script)) script.sections
  pub few : length script.sections ≤ MAX_LINES
  pub threads : IsCount MOST_THREADS script.threads
  pub rounds : script.rounds ≤ MOST_ROUNDS
  pub taps : AreTaps script.n script.taps
  pub tapped : All (λ section. All (IsOnTap script.taps) section.steps) script.sections
