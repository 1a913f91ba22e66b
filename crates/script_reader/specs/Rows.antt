-- What a line says.
use Rattle.std.specs.Prelude.{ℕ, Bool, true, nat_lt, List, length, Option, Some, None, Result, Ok, Err, if◌then◌else◌}
use Rattle.ids_core.specs.Ids.{same_sort}
use Rattle.dc_talk.specs.declared.calls.Change.{Change as ChangeOf}
use Rattle.dc_talk.specs.declared.calls.Change.TheVariants as change
use Rattle.dc_talk.specs.Calls.{sort_of_change}
use Rattle.dc_talk.specs.declared.links.LinkFault.{LinkFault}
use Rattle.dc_talk.specs.declared.links.LinkFault.TheVariants as link
use Rattle.script_core.specs.declared.limits.TheConstants.{MAX_LINE, MAX_LINES}
use Rattle.script_core.specs.declared.script.Header.{Header}
use Rattle.script_core.specs.declared.steps.AskFault.TheVariants as fault
use Rattle.script_core.specs.declared.steps.ClientStep.{ClientStep}
use Rattle.script_core.specs.declared.steps.ClientStep.TheVariants.{Connect, Begin, Change, Read, Grant, Give, Take, Rights, Commit, Abort, Push, Flush, Refresh, Again, Arm, Look}
use Rattle.script_core.specs.declared.steps.OperatorStep.{OperatorStep}
use Rattle.script_core.specs.declared.steps.OperatorStep.TheVariants.{Down, Up, ShipOne, Ship, Relay, Tell, Prune, Link, Settle, Feed}
use Rattle.script_core.specs.declared.steps.Step.TheVariants.{Client, Operator}
use Rattle.script_reader.specs.declared.fault.Cause.{Cause}
use Rattle.script_reader.specs.declared.fault.Cause.TheVariants as cause
use Rattle.script_reader.specs.declared.form.Form.{Form}
use Rattle.script_reader.specs.declared.form.Form.TheVariants as form
use Rattle.script_reader.specs.declared.said.Said.{Said}
use Rattle.script_reader.specs.declared.row.Row.{Row}
use Rattle.script_reader.specs.declared.row.Row.TheVariants as row
use Rattle.script_reader.specs.Words.{words_of, without_return, is_plain_text, is_comment}
use Rattle.script_reader.specs.Forms.{parts_of, form_of}
use Rattle.script_reader.specs.Said.{unsaid, said_words}

-- a step of the client that is named
abbrev pub client_row : Said → ClientStep → Row
client_row said step = row.Does (Client said.client step)

-- a change of the object that is named
abbrev pub change_row : Said → ChangeOf → Row
change_row said made = client_row said (Change said.object made)

-- an addition to the object that is named for it
abbrev pub inc_row : Said → Row
inc_row said = client_row said (Change said.summand (change.Inc said.delta))

-- a step of the operator
abbrev pub operator_row : OperatorStep → Row
operator_row step = row.Does (Operator step)

-- a fault of the link between the two centres that are named
abbrev pub link_row : Said → LinkFault → Row
link_row said fault = operator_row (Link said.centre said.other fault)

-- what a line of this form says, whose words say this
unfoldable pub row_of : Form → Said → Row
row_of form.Centres said = row.Centres said.n said.k
row_of form.Clients said = row.Clients said.count
row_of form.Cache said = row.Cache said.count
row_of form.Limit said = row.Limit said.count
row_of form.Threads said = row.Threads said.count
row_of form.Rounds said = row.Rounds said.count
row_of form.Tap said = row.Tap (record { centre = said.centre; object = said.object })
row_of form.Connect said = client_row said (Connect said.centre)
row_of form.Begin said = client_row said Begin
row_of form.Inc said = inc_row said
row_of form.Set said = change_row said (change.Write said.word)
row_of form.Add said = change_row said (change.Add said.word)
row_of form.Del said = change_row said (change.Remove said.word)
row_of form.Put said = change_row said (change.Put said.key said.word)
row_of form.Drop said = change_row said (change.Erase said.key)
row_of form.Read said = client_row said (Read said.object)
row_of form.Grant said = client_row said (Grant said.share said.amount)
row_of form.Give said = client_row said (Give said.share said.to said.amount)
row_of form.Take said = client_row said (Take said.share said.amount)
row_of form.Rights said = client_row said (Rights said.share)
row_of form.Commit said = client_row said Commit
row_of form.Abort said = client_row said Abort
row_of form.Push said = client_row said Push
row_of form.Flush said = client_row said Flush
row_of form.Refresh said = client_row said Refresh
row_of form.Again said = client_row said (Again said.centre said.number)
row_of form.LoseAsk said = client_row said (Arm fault.LoseAsk)
row_of form.LoseReply said = client_row said (Arm fault.LoseReply)
row_of form.AskTwice said = client_row said (Arm fault.Twice)
row_of form.Look said = client_row said (Look said.centre said.object)
row_of form.Down said = operator_row (Down said.centre)
row_of form.Up said = operator_row (Up said.centre)
row_of form.ShipOne said = operator_row (ShipOne said.centre said.other said.count)
row_of form.Ship said = operator_row (Ship said.centre said.other)
row_of form.Relay said = operator_row (Relay said.centre said.other said.third)
row_of form.Tell said = operator_row (Tell said.centre said.other)
row_of form.Prune said = operator_row (Prune said.centre)
row_of form.Feed said = operator_row (Feed said.centre)
row_of form.LinkDrop said = link_row said (link.Drop said.count)
row_of form.LinkTwice said = link_row said (link.Twice said.count)
row_of form.LinkHold said = link_row said (link.Hold said.count)
row_of form.LinkCut said = link_row said (link.Cut said.count)
row_of form.LinkBend said = link_row said (link.Bend said.count)
row_of form.LinkClean said = link_row said link.Clean
row_of form.Settle said = operator_row Settle
row_of form.Phase said = row.Phase
row_of form.End said = row.End

-- the object of a client's step is of the kind that the step changes
abbrev pub is_of_kind : ClientStep → Bool
is_of_kind (Change object made) = same_sort object.sort (sort_of_change made)
is_of_kind _ = true

-- so is that of a line, where it has one
abbrev pub is_of_its_kind : Row → Bool
is_of_its_kind (row.Does (Client client step)) = is_of_kind step
is_of_its_kind _ = true

-- a line whose words were taken
abbrev pub kind_checked : Row → Result (Option Row) Cause
kind_checked line = if is_of_its_kind line then Ok (Some line) else Err cause.Kind

-- what a line of this form says
abbrev pub row_said : Form → Result Said Cause → Result (Option Row) Cause
row_said one (Ok said) = kind_checked (row_of one said)
row_said one (Err why) = Err why

-- what these words say behind this header, or before one
abbrev pub row_spelled : Option Header → List (List ℕ) → Result Form Cause → Result (Option Row) Cause
row_spelled header texts (Ok one) = row_said one (said_words header (parts_of one) texts unsaid)
row_spelled header texts (Err why) = Err why

-- what a text says that is no comment
abbrev pub row_in_words : Option Header → List (List ℕ) → Result (Option Row) Cause
row_in_words header texts = row_spelled header texts (form_of texts)

-- what a text says; nothing where it is skipped
unfoldable pub row_in_text : Option Header → List ℕ → Result (Option Row) Cause
row_in_text header text = if is_comment (words_of text) then Ok None else (if is_plain_text text then row_in_words header (words_of text) else Err cause.Byte)

-- what was found with this row in its place: a row, nothing, or why there is none
abbrev pub row_behind : Result Bool Cause → Row → Result (Option Row) Cause
row_behind (Ok found) line = Ok (if found then Some line else None)
row_behind (Err why) line = Err why

-- what a line of this number says that is within the limits, and else why it is refused
abbrev pub within_limits : ℕ → List ℕ → Result (Option Row) Cause → Result (Option Row) Cause
within_limits number line said = if nat_lt MAX_LINES number then Err cause.Many else (if nat_lt MAX_LINE (length line) then Err cause.Long else said)

-- what is said, where nothing stands against it
abbrev pub unless_refused : {U : Type 0} → Result U Cause → Result (Option Row) Cause → Result (Option Row) Cause
unless_refused (Ok u) said = said
unless_refused (Err why) said = Err why

-- what the line of this number says, behind this header, or why it is refused wherever it stands
unfoldable pub row_in : Option Header → ℕ → List ℕ → Result (Option Row) Cause
row_in header number line = within_limits number line (row_in_text header (without_return line))
