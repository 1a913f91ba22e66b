-- What a line is refused for, behind the lines before it.
use Rattle.std.specs.Prelude.{ℕ, List, Option, Some, None, Result, Ok, Err, if◌then◌else◌}
use Rattle.script_reader.specs.declared.fault.Cause.{Cause}
use Rattle.script_reader.specs.declared.fault.Cause.TheVariants as cause
use Rattle.script_reader.specs.declared.row.Row.{Row}
use Rattle.script_reader.specs.declared.reading.Reading.{Reading}
use Rattle.script_reader.specs.Rows.{row_in}
use Rattle.script_reader.specs.Readings.{header_in, is_tapped, may_stand, read_more}

-- how far the lines come with this one behind them; a skipped one changes nothing
abbrev pub taken : Reading → Result (Option Row) Cause → Result Reading Cause
taken reading (Ok (Some line)) = if is_tapped reading line then (if may_stand reading line then Ok (read_more reading line) else Err cause.Place) else Err cause.Range
taken reading (Ok None) = Ok reading
taken reading (Err why) = Err why

-- how far the lines come with the one of this number behind them, or why it is refused
abbrev pub line_taken : Reading → ℕ → List ℕ → Result Reading Cause
line_taken reading number line = taken reading (row_in (header_in reading) number line)
