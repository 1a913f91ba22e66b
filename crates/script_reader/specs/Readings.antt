-- How far lines came, and what may stand behind them.
use Rattle.std.specs.Prelude.{◌==◌, ◌&&◌, ◌||◌, ◌++◌, ℕ, Bool, true, not, nat_lt, List, [], ◌∷◌, length, is_some, is_none, Option, Some, None}
use Rattle.script_core.specs.declared.script.Header.{Header}
use Rattle.script_core.specs.Rows.{section_of, phase_of, may_do_in_phase}
use Rattle.script_core.specs.declared.steps.Step.{Step}
use Rattle.script_core.specs.declared.taps.Tapped.{Tapped}
use Rattle.script_core.specs.declared.taps.TheConstants.{MOST_TAPPED}
use Rattle.script_reader.specs.declared.row.Row.{Row}
use Rattle.script_reader.specs.declared.row.Row.TheVariants as row
use Rattle.script_reader.specs.declared.reading.Group.{Group}
use Rattle.script_reader.specs.declared.reading.Reading.{Reading}
use Rattle.script_reader.specs.Taps.{is_on_tap, shows}

-- no line was read
abbrev pub nothing_read : Reading
nothing_read = record { centres = None; clients = None; cache = None; limit = None; threads = None; rounds = None; taps = []; sections = []; phase = None }

-- what the two header lines say
abbrev pub header_said : Option Group → Option ℕ → Option Header
header_said (Some group) (Some clients) = Some (record { n = group.n; k = group.k; clients = clients })
header_said _ _ = None

-- the header, where both its lines were taken
abbrev pub header_in : Reading → Option Header
header_in reading = header_said reading.centres reading.clients

-- a setting may stand: behind the header, before all steps and phases, and once
abbrev pub may_set : Reading → Option ℕ → Bool
may_set reading set = is_some (header_in reading) && (length reading.sections == 0 && (is_none reading.phase && is_none set))

-- a tap may show one more object: where a setting may stand, where taps show few, and where the tap of its centre does
-- not show it yet
abbrev pub may_tap : Reading → Tapped → Bool
may_tap reading tapped = may_set reading None && (nat_lt (length reading.taps) MOST_TAPPED && not (shows reading.taps tapped.centre tapped.object))

-- the tap is there that a line feeds or looks through, where it does; before a header no line has one
abbrev pub is_tapped : Reading → Row → Bool
is_tapped reading (row.Does step) = is_on_tap reading.taps step || is_none (header_in reading)
is_tapped reading line = true

-- a step may stand in a phase with these steps so far, or outside of all phases
abbrev pub may_do : Option (List Step) → Step → Bool
may_do None step = true
may_do (Some steps) step = may_do_in_phase step

-- a line may stand here
unfoldable pub may_stand : Reading → Row → Bool
may_stand reading (row.Centres n k) = is_none reading.centres
may_stand reading (row.Clients clients) = is_some reading.centres && is_none reading.clients
may_stand reading (row.Cache objects) = may_set reading reading.cache
may_stand reading (row.Limit most) = may_set reading reading.limit
may_stand reading (row.Threads most) = may_set reading reading.threads
may_stand reading (row.Rounds rounds) = may_set reading reading.rounds
may_stand reading (row.Tap tapped) = may_tap reading tapped
may_stand reading (row.Does step) = is_some (header_in reading) && may_do reading.phase step
may_stand reading row.Phase = is_some (header_in reading) && is_none reading.phase
may_stand reading row.End = is_some reading.phase

-- with one more step: the next of the phase that it stands in, or a section of its own
abbrev pub step_read : Reading → Option (List Step) → Step → Reading
step_read reading None step = record reading { sections = reading.sections ++ section_of step ∷ [] }
step_read reading (Some steps) step = record reading { phase = Some (steps ++ step ∷ []) }

-- with the end of a phase with these steps, which are a section together
abbrev pub phase_read : Reading → Option (List Step) → Reading
phase_read reading None = reading
phase_read reading (Some steps) = record reading { sections = reading.sections ++ phase_of steps ∷ []; phase = None }

-- how far the lines came with one more behind them
unfoldable pub read_more : Reading → Row → Reading
read_more reading (row.Centres n k) = record reading { centres = Some (record { n = n; k = k }) }
read_more reading (row.Clients clients) = record reading { clients = Some clients }
read_more reading (row.Cache objects) = record reading { cache = Some objects }
read_more reading (row.Limit most) = record reading { limit = Some most }
read_more reading (row.Threads most) = record reading { threads = Some most }
read_more reading (row.Rounds rounds) = record reading { rounds = Some rounds }
read_more reading (row.Tap tapped) = record reading { taps = reading.taps ++ tapped ∷ [] }
read_more reading (row.Does step) = step_read reading reading.phase step
read_more reading row.Phase = record reading { phase = Some [] }
read_more reading row.End = phase_read reading reading.phase
