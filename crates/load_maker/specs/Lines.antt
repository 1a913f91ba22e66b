-- The lines of made scripts.
use Rattle.std.specs.Prelude.{ℕ, List, ◌++◌, flat_map, codes, decimal}
use Rattle.load_maker.specs.declared.line.Line.{Line}
use Rattle.load_maker.specs.declared.line.Line.TheVariants.{Centres, Clients, Threads, Rounds, Phase, End, Settle, Down, Prune, Up, Connect, Begin, IncTotal, IncSide, SetNote, AddCart, PutCart, ReadTotal, Commit, Push, Flush, Refresh}

-- a client: `c1`
abbrev pub client_text : ℕ → List ℕ
client_text client = codes "c" ++ decimal client

-- a line, without its line feed
abbrev pub line_text : Line → List ℕ
line_text Centres = codes "centres 3 k 2"
line_text (Clients clients) = codes "clients " ++ decimal clients
line_text Threads = codes "threads 4"
line_text Rounds = codes "rounds 32"
line_text Phase = codes "phase"
line_text End = codes "end"
line_text Settle = codes "settle"
line_text (Down centre) = codes "down " ++ decimal centre
line_text (Prune centre) = codes "prune " ++ decimal centre
line_text (Up centre) = codes "up " ++ decimal centre
line_text (Connect client centre) = client_text client ++ (codes " connect " ++ decimal centre)
line_text (Begin client) = client_text client ++ codes " begin"
line_text (IncTotal client) = client_text client ++ (codes " inc c.total " ++ decimal client)
line_text (IncSide client) = client_text client ++ codes " inc c.side 1"
line_text (SetNote client word) = client_text client ++ (codes " set r.note w" ++ decimal word)
line_text (AddCart client word) = client_text client ++ (codes " add s.cart w" ++ decimal word)
line_text (PutCart client key word) = client_text client ++ (codes " put m.cart k" ++ decimal key) ++ (codes " w" ++ decimal word)
line_text (ReadTotal client) = client_text client ++ codes " read c.total"
line_text (Commit client) = client_text client ++ codes " commit"
line_text (Push client) = client_text client ++ codes " push"
line_text (Flush client) = client_text client ++ codes " flush"
line_text (Refresh client) = client_text client ++ codes " refresh"

-- lines, each with its line feed
abbrev pub lines_text : List Line → List ℕ
lines_text lines = flat_map (λ line. line_text line ++ codes "\n") lines
