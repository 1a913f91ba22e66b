-- Causal books: what each value that was read stands on (Zawirski and others, Middleware 2015).
use Rattle.std.specs.Prelude.{◌≡◌, ◌≢◌, ℕ, ◌-◌, ◌≤◌, ◌++◌, Some, slice_get}
use Rattle.list_core.specs.Members.{In}
use Rattle.ids_core.specs.declared.ids.Dot.{Dot}
use Rattle.ids_core.specs.declared.object.ObjectId.{ObjectId}
use Rattle.tx_core.specs.declared.tx.Tx.{Tx}
use Rattle.tx_core.specs.declared.state.Value.{Value}
use Rattle.dc_talk.specs.declared.calls.Call.TheVariants.{Read}
use Rattle.dc_talk.specs.declared.calls.Outcome.TheVariants.{Got}
use Rattle.dc_talk.specs.declared.log.Deed.TheVariants.{Did}
use Rattle.dc_talk.specs.declared.log.Note.{Note}
use Rattle.run_book.specs.declared.book.Book.{Book}
use Rattle.tx_graph.specs.Nodes.{Within, Closed, WellMade}
use Rattle.run_book.specs.Setups.{Setup}
use Rattle.run_book.specs.Parts.{notes_of, IsClient}
use Rattle.tx_graph.specs.Values.{acts_of, acts_over, IsValueBy}
use Rattle.run_book.specs.Graphs.{graph, basis_at, client_at, commits_at, open_node}
use Rattle.run_book.specs.Known.{IsKnown}

-- a value that was read: by which actor, at which note of its log, of which object
pub record ValueRead : Type 0 where
  pub actor : ℕ
  pub place : ℕ
  pub object : ObjectId
  pub value : Value

-- the read is one of a client of the book
pub record Reads (b : Book) (setup : Setup) (read : ValueRead) : Type 0 where
  pub client : IsClient setup read.actor
  pub note : Note
  pub there : slice_get (notes_of b read.actor) read.place ≡ Some note
  pub deed_is : note.deed ≡ Did (Read read.object) (Got read.value)

-- the value is that of the object over the basis of the read, each transaction counted once, and the
-- updates that were open then
abbrev pub IsValueAt : Book → Setup → ValueRead → Type 0
IsValueAt b setup read = IsValueBy read.object.sort (acts_over (graph b setup) (basis_at b setup read.actor read.place) read.object ++ acts_of read.object (open_node b (client_at b setup read.actor read.place))) read.value

-- a read stands on a causally closed set of transactions; this set, the basis, holds all that the
-- session committed and the bases of its earlier reads; each other member was known to K centres; and
-- the value is that over the basis and the open updates
pub record IsCausalRead (b : Book) (setup : Setup) (read : ValueRead) : Type 0 where
  pub closed : Closed (graph b setup) (basis_at b setup read.actor read.place)
  pub own : (t : Tx) → In t (commits_at b setup read.actor read.place) → In t.dot (basis_at b setup read.actor read.place)
  pub earlier : (other : ValueRead) → Reads b setup other → other.actor ≡ read.actor → other.place ≤ read.place → Within (basis_at b setup other.actor other.place) (basis_at b setup read.actor read.place)
  pub known : (d : Dot) → In d (basis_at b setup read.actor read.place) → d.client ≢ read.actor - 1 → IsKnown b setup read.actor read.place d
  pub value_is : IsValueAt b setup read

-- a book is causal: its graph is well made, and so is each read
pub record IsCausal (b : Book) (setup : Setup) : Type 0 where
  pub made : WellMade (graph b setup)
  pub reads : (read : ValueRead) → Reads b setup read → IsCausalRead b setup read
