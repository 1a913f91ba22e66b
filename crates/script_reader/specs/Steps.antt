-- The steps of a client that are read straight from their words.
use Rattle.std.specs.Prelude.{ℕ, ℤ, Bool, true, false, Option, Result, Ok, Err}
use Rattle.dc_talk.specs.declared.calls.Change.TheVariants.{Inc as inc_by}
use Rattle.ids_core.specs.declared.object.ObjectId.{ObjectId}
use Rattle.script_core.specs.declared.steps.ClientStep.TheVariants.{Change}
use Rattle.script_core.specs.declared.steps.Step.TheVariants.{Client}
use Rattle.script_reader.specs.declared.fault.Cause.{Cause}
use Rattle.script_reader.specs.declared.form.Form.{Form}
use Rattle.script_reader.specs.declared.form.Form.TheVariants.{Begin, Commit, Abort, Push, Flush, Refresh, AskTwice}
use Rattle.script_reader.specs.declared.row.Row.{Row}
use Rattle.script_reader.specs.declared.row.Row.TheVariants.{Does}
use Rattle.script_reader.specs.Rows.{kind_checked}

-- a client and one fixed word are all of a line of this form
abbrev pub is_bare : Form → Bool
is_bare Begin = true
is_bare Commit = true
is_bare Abort = true
is_bare Push = true
is_bare Flush = true
is_bare Refresh = true
is_bare AskTwice = true
is_bare _ = false

-- an addition of a client to an object by a delta, or why there is none
abbrev pub sum_of : ℕ → ObjectId → Result ℤ Cause → Result (Option Row) Cause
sum_of client object (Ok delta) = kind_checked (Does (Client client (Change object (inc_by delta))))
sum_of client object (Err why) = Err why
