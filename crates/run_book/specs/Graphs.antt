-- The graph of the transactions of a book, and what a session stands on. Sessions and centres keep no
-- dependency set; `Book::nodes` and `Book::basis` compute them from the book.
use Rattle.std.specs.Prelude.{ℕ, ◌+◌, ◌-◌, map, flat_map, take, List, ◌++◌}
use Rattle.std.specs.List.{range_with_len}
use Rattle.ids_core.specs.declared.ids.Dot.{Dot}
use Rattle.vv_core.specs.Vectors.{at, centres}
use Rattle.tx_core.specs.declared.tx.Tx.{Tx}
use Rattle.tx_core.specs.declared.tx.Record.{Record}
use Rattle.dc_talk.specs.Records.{own}
use Rattle.dc_talk.specs.Clients.{Client, next_dot, draft_updates}
use Rattle.dc_talk.specs.Rule.{client_after, commits_of}
use Rattle.run_book.specs.declared.book.Book.{Book}
use Rattle.tx_graph.specs.Nodes.{Node}
use Rattle.run_book.specs.Setups.{Setup}
use Rattle.run_book.specs.Parts.{notes_of, applied_by_end}

-- the records that centre e stamped in the book, in order
abbrev pub own_list : Book → ℕ → List Record
own_list b e = own e (applied_by_end b e)

-- the dots that a vector covers: those of the first records of each centre, as many as its entry says
abbrev pub cover : Book → List ℕ → List Dot
cover b vector = flat_map (λ e. map (λ r. r.tx.dot) (take (at vector e) (own_list b e))) (centres b.n)

-- the dots of a client's first transactions
abbrev pub own_dots : ℕ → ℕ → List Dot
own_dots client count = map (λ number. record { client = client; number = number }) (range_with_len 1 count)

-- the node of a committed transaction: it depends on what its snapshot covers, and on all that its
-- client had committed before
abbrev pub node_of : Book → Tx → Node
node_of b tx = record { dot = tx.dot; deps = cover b tx.snap ++ own_dots tx.dot.client (tx.dot.number - 1); rank = tx.rank; updates = tx.updates }

-- the transactions that the clients committed, client by client
abbrev pub committed : Book → Setup → List Tx
committed b setup = flat_map (λ client. commits_of b.n client setup.capacity (notes_of b (client + 1))) (range_with_len 1 setup.clients)

-- the graph of a book
abbrev pub graph : Book → Setup → List Node
graph b setup = map (node_of b) (committed b setup)

-- what a session stands on: what its vector covers, and all that it committed
abbrev pub basis : Book → Client → List Dot
basis b s = cover b s.vector ++ own_dots s.client s.own

-- the client of actor a after the first m notes of its log
abbrev pub client_at : Book → Setup → ℕ → ℕ → Client
client_at b setup a m = client_after b.n (a - 1) setup.capacity (take m (notes_of b a))

-- the transactions that actor a committed by the first m notes of its log
abbrev pub commits_at : Book → Setup → ℕ → ℕ → List Tx
commits_at b setup a m = commits_of b.n (a - 1) setup.capacity (take m (notes_of b a))

-- the basis of a read at note m of actor a
abbrev pub basis_at : Book → Setup → ℕ → ℕ → List Dot
basis_at b setup a m = basis b (client_at b setup a m)

-- the node of a session's open transaction, behind all that the session stands on
abbrev pub open_node : Book → Client → Node
open_node b s = record { dot = next_dot s; deps = basis b s; rank = s.clock + 1; updates = draft_updates s }
