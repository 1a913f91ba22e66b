-- What the lines of made scripts say in the grammar of scripts.
use Rattle.std.specs.Prelude.{◌≡◌, ◌≤◌, ℕ, pos, List, ◌++◌, Some, Ok, codes, decimal}
use Rattle.ids_core.specs.declared.object.ObjectId.{ObjectId}
use Rattle.ids_core.specs.declared.object.Sort.TheVariants.{Counter, Register, Set, Map}
use Rattle.dc_talk.specs.declared.calls.Change.TheVariants.{Inc, Write, Add, Put}
use Rattle.script_core.specs.declared.limits.TheConstants.{MAX_LINES}
use Rattle.script_core.specs.declared.script.Header.{Header}
use Rattle.script_core.specs.declared.steps.ClientStep.{ClientStep}
use Rattle.script_core.specs.declared.steps.ClientStep.TheVariants as does
use Rattle.script_core.specs.declared.steps.OperatorStep.TheVariants as operator
use Rattle.script_core.specs.declared.steps.Step.TheVariants as step
use Rattle.script_reader.specs.declared.row.Row.{Row}
use Rattle.script_reader.specs.declared.row.Row.TheVariants as row
use Rattle.script_reader.specs.Rows.{row_in}
use Rattle.load_maker.specs.declared.line.Line.{Line}
use Rattle.load_maker.specs.declared.line.Line.TheVariants.{Centres, Clients, Threads, Rounds, Phase, End, Settle, Down, Prune, Up, Connect, Begin, IncTotal, IncSide, SetNote, AddCart, PutCart, ReadTotal, Commit, Push, Flush, Refresh}
use Rattle.load_maker.specs.Lines.{line_text}

-- the header of made scripts
abbrev pub made_header : Header
made_header = record { n = 3; k = 2; clients = 100 }

-- the objects of made scripts
abbrev pub total : ObjectId
total = record { sort = Counter; name = codes "total" }

abbrev pub side : ObjectId
side = record { sort = Counter; name = codes "side" }

abbrev pub note : ObjectId
note = record { sort = Register; name = codes "note" }

abbrev pub cart : ObjectId
cart = record { sort = Set; name = codes "cart" }

abbrev pub cart_map : ObjectId
cart_map = record { sort = Map; name = codes "cart" }

-- a word of a letter and a number: `w7`
abbrev pub word_of : ℕ → List ℕ
word_of number = codes "w" ++ decimal number

-- and a key: `k7`
abbrev pub key_of : ℕ → List ℕ
key_of number = codes "k" ++ decimal number

-- a step of a client
abbrev pub client_does : ℕ → ClientStep → Row
client_does client made = row.Does (step.Client client made)

-- what a line says
abbrev pub row_meant : Line → Row
row_meant Centres = row.Centres 3 2
row_meant (Clients clients) = row.Clients clients
row_meant Threads = row.Threads 4
row_meant Rounds = row.Rounds 32
row_meant Phase = row.Phase
row_meant End = row.End
row_meant Settle = row.Does (step.Operator operator.Settle)
row_meant (Down centre) = row.Does (step.Operator (operator.Down centre))
row_meant (Prune centre) = row.Does (step.Operator (operator.Prune centre))
row_meant (Up centre) = row.Does (step.Operator (operator.Up centre))
row_meant (Connect client centre) = client_does client (does.Connect centre)
row_meant (Begin client) = client_does client does.Begin
row_meant (IncTotal client) = client_does client (does.Change total (Inc (pos client)))
row_meant (IncSide client) = client_does client (does.Change side (Inc (pos 1)))
row_meant (SetNote client word) = client_does client (does.Change note (Write (word_of word)))
row_meant (AddCart client word) = client_does client (does.Change cart (Add (word_of word)))
row_meant (PutCart client key word) = client_does client (does.Change cart_map (Put (key_of key) (word_of word)))
row_meant (ReadTotal client) = client_does client (does.Read total)
row_meant (Commit client) = client_does client does.Commit
row_meant (Push client) = client_does client does.Push
row_meant (Flush client) = client_does client does.Flush
row_meant (Refresh client) = client_does client does.Refresh

-- a line is one of the grammar and says what it means, behind the header of made scripts and wherever it stands
abbrev pub IsRead : Line → Type 0
IsRead line = (number : ℕ) → number ≤ MAX_LINES → row_in (Some made_header) number (line_text line) ≡ Ok (Some (row_meant line))
