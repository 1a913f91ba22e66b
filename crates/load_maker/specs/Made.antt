-- The script that a number stands for.
use Rattle.std.specs.Prelude.{◌≡◌, ℕ, zero, suc, ◌+◌, List, [], ◌∷◌, ◌++◌, flat_map}
use Rattle.std.specs.List.{range_with_len}
use Rattle.load_maker.specs.declared.line.Line.{Line}
use Rattle.load_maker.specs.declared.line.Line.TheVariants.{Centres, Clients, Threads, Rounds, Phase, End, Settle, Down, Prune, Up, Connect, Begin, IncTotal, IncSide, SetNote, AddCart, PutCart, ReadTotal, Commit, Push, Flush, Refresh}
use Rattle.load_maker.specs.declared.maker.Maker.{Maker}
use Rattle.load_maker.specs.Draws.{drawn, next_state}
use Rattle.load_maker.specs.Lines.{lines_text}

-- lines that are made together: the lines, and the state of the generator behind them, by the state before them
abbrev pub Block : Type 0
Block = ℕ → (List Line × ℕ)

-- the lines of blocks, one behind the other
abbrev pub lines_made : List Block → ℕ → List Line
lines_made [] state = []
lines_made (block ∷ blocks) state = (block state).0 ++ lines_made blocks (block state).1

-- and the state behind them
abbrev pub state_behind : List Block → ℕ → ℕ
state_behind [] state = state
state_behind (block ∷ blocks) state = state_behind blocks (block state).1

-- lines in which nothing is drawn
abbrev pub fixed : List Line → Block
fixed lines state = (lines, state)

-- one of three centres is down while all are pruned
abbrev pub outage : Block
outage state = (Down (1 + drawn 3 state) ∷ Prune 1 ∷ Prune 2 ∷ Prune 3 ∷ Up (1 + drawn 3 state) ∷ [], next_state state)

-- a client comes to one of three centres
abbrev pub connect : ℕ → Block
connect client state = (Connect client (1 + drawn 3 state) ∷ [], next_state state)

-- a client's second change in a transaction, of the kind that was drawn
abbrev pub change_of : ℕ → ℕ → Block
change_of client zero state = (IncSide client ∷ [], state)
change_of client (suc zero) state = (SetNote client (drawn 50 state) ∷ [], next_state state)
change_of client (suc (suc zero)) state = (AddCart client (drawn 50 state) ∷ [], next_state state)
change_of client (suc (suc (suc kind))) state = (PutCart client (drawn 50 state) (drawn 50 (next_state state)) ∷ [], next_state (next_state state))

-- a kind is drawn, and a change of it is made
abbrev pub change : ℕ → Block
change client state = change_of client (drawn 4 state) (next_state state)

-- a transaction of a client
abbrev pub transaction : ℕ → List Block
transaction client = fixed (Begin client ∷ IncTotal client ∷ []) ∷ change client ∷ fixed (ReadTotal client ∷ Commit client ∷ Push client ∷ []) ∷ []

-- so many of them
abbrev pub transactions : ℕ → ℕ → List Block
transactions client many = flat_map (λ turn. transaction client) (range_with_len 1 many)

-- what a client does in a phase: it comes to a centre, and ends with a new snapshot
abbrev pub client_load : ℕ → ℕ → List Block
client_load turns client = connect client ∷ transactions client turns ++ fixed (Refresh client ∷ []) ∷ []

-- what so many clients do in a phase, one behind the other
abbrev pub loads : ℕ → ℕ → List Block
loads turns clients = flat_map (client_load turns) (range_with_len 1 clients)

-- what is done in a phase
abbrev pub within : ℕ → ℕ → List Block
within turns clients = outage ∷ loads turns clients

-- a phase
abbrev pub phase : ℕ → ℕ → List Block
phase turns clients = fixed (Phase ∷ []) ∷ within turns clients ++ fixed (End ∷ []) ∷ []

-- so many phases
abbrev pub phases : ℕ → ℕ → ℕ → List Block
phases turns clients many = flat_map (λ turn. phase turns clients) (range_with_len 1 many)

-- a client comes to a centre, and sends all that it has
abbrev pub flush : ℕ → List Block
flush client = connect client ∷ fixed (Flush client ∷ []) ∷ []

-- so many clients do so
abbrev pub flushes : ℕ → List Block
flushes clients = flat_map flush (range_with_len 1 clients)

-- a client takes a last snapshot and reads
abbrev pub last_read : ℕ → List Block
last_read client = fixed (Refresh client ∷ ReadTotal client ∷ []) ∷ []

-- so many clients do so
abbrev pub last_reads : ℕ → List Block
last_reads clients = flat_map last_read (range_with_len 1 clients)

-- the settings of a script of so many clients
abbrev pub settings : ℕ → List Line
settings clients = Centres ∷ Clients clients ∷ Threads ∷ Rounds ∷ []

-- what is done behind the phases: the centres settle, and once more when the clients have sent all that they have
abbrev pub ending : ℕ → List Block
ending clients = fixed (Settle ∷ []) ∷ flushes clients ++ fixed (Settle ∷ []) ∷ last_reads clients

-- what is done in a script of so many clients and phases, with so many transactions of a client in a phase
unfoldable pub body : ℕ → ℕ → ℕ → List Block
body turns clients many = phases turns clients many ++ ending clients

-- such a script
unfoldable pub blocks : ℕ → ℕ → ℕ → List Block
blocks turns clients many = fixed (settings clients) ∷ body turns clients many

-- the lines of the script that a number stands for: of 100 clients in 5 phases, with 10 transactions of each in a phase
unfoldable pub made_lines : ℕ → List Line
made_lines num = lines_made (blocks 10 100 5) num

-- its bytes
unfoldable pub made_script : ℕ → List ℕ
made_script num = lines_text (made_lines num)

-- ---- as it is written

-- blocks are written: their lines stand behind the text, and the generator is in the state behind them
pub record Makes (made : List Block) (old new : Maker) : Type 0 where
  pub text : new.text.items ≡ old.text.items ++ lines_text (lines_made made old.draws.state)
  pub state : new.draws.state ≡ state_behind made old.draws.state
