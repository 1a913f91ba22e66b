-- The acts in a book that fits are few and apart, so the value that is computed is the one that is defined.
use Rattle.std.proofs.Common.{◌≡◌, ℕ, ◌-◌, ◌≤◌, ◌<◌, ◌^◌, List, [], length, take, map, Some, Ok, Err, Result, refl, sym, ap, ◌∙◌, subst, arith}
use Rattle.std.specs.Prelude.{slice_get, All, IfOk}
use Rattle.std.proofs.lemmas.Option.{same_Some}
use Rattle.std.proofs.lemmas.List.{append-nil}
use Rattle.list_core.specs.Members.{In}
use Rattle.list_core.proofs.Members.{In-All, In_from_map}
use Rattle.ids_core.specs.declared.ids.Dot.{Dot}
use Rattle.ids_core.specs.declared.object.ObjectId.{ObjectId}
use Rattle.ids_core.specs.declared.object.Sort.TheVariants as sort
use Rattle.obj_counter.specs.Counter.{sizes}
use Rattle.tx_core.specs.declared.state.Value.{Value}
use Rattle.dc_talk.specs.Logs.{Logged}
use Rattle.dc_talk.specs.Clients.{Client, draft_updates}
use Rattle.run_book.specs.Setups.{Setup}
use Rattle.run_book.specs.declared.book.Book.{Book}
use Rattle.tx_graph.specs.declared.acts.BareAct.{BareAct}
use Rattle.run_book.specs.declared.replay.Replay.{Replay}
use Rattle.run_book.specs.declared.bare_nodes.BareNode.{BareNode}
use Rattle.tx_graph.specs.Nodes.{Node}
use Rattle.run_book.specs.Parts.{log_of, notes_of, IsClient}
use Rattle.run_book.specs.Fit.{FitsWith}
use Rattle.tx_graph.specs.Values.{Act, IsValueBy, IsValueOver, acts_over, deltas_in}
use Rattle.run_book.specs.Graphs.{node_of, committed, graph, basis_at, client_at, open_node}
use Rattle.run_book.specs.Causal.{Reads, ValueRead, IsValueAt}
use Rattle.run_book.specs.Replay.{Shows, IsInRange}
use Rattle.tx_graph.specs.Acts.{bare_of, HasUniqueMarks}
use Rattle.run_book.specs.BareNodes.{bare_node}
use Rattle.run_book.specs.ReadValues.{read_in, read_of}
use Rattle.run_book.proofs.Sessions.{IsModest, modest_none}
use Rattle.run_book.proofs.Replays.{in_range_at}
use Rattle.run_book.proofs.Growth.{wide_after}
use Rattle.run_book.proofs.Causal.Closure.{made, session_held}
use Rattle.run_book.proofs.Causal.CommitMoments.{commit_modest}
use Rattle.run_book.proofs.Causal.Sums.{sum_fits}
use Rattle.run_book.proofs.Causal.Views.{well_issued, open_over}
use Rattle.run_book.proofs.Causal.OneValue.{unique_marks, unique_marks_in}
use Rattle.run_book.proofs.Causal.Theorem.{values}
use Rattle.run_book.proofs.Causal.Acts.{acts_with}

-- what holds of the value of a result, where there is one
pub ok_from : {T E : Type 0} (r : Result T E) (P : T → Type 0) → ((value : T) → r ≡ Ok value → P value) → IfOk r P
ok_from (Ok value) P each = each value refl
ok_from (Err e) P each = tt

module _ (b : Book) (setup : Setup) (fit : FitsWith b setup) where
  -- the graph of the book
  abbrev nodes : List Node
  nodes = graph b setup

  -- each transaction has few updates
  pub few_updates : All (λ t. length t.updates ≤ 256) (graph b setup)
  few_updates = In-All (λ (t : Node). length t.updates ≤ 256) nodes few
    where
      few : (t : Node) → In t nodes → length t.updates ≤ 256
      few t i =
          let m = In_from_map (node_of b) (committed b setup) t i in
          let modest = commit_modest b setup fit m.0 m.1 in
          omega (arith, ap (λ (t : Node). length t.updates) m.2, modest.few)

  -- the value over a set is that of its acts
  pub value_of_set : (set : List Dot) (o : ObjectId) (acts : List BareAct) (value : Value) → acts ≡ map bare_of (acts_over nodes set o) → ((whole : List Act) → acts ≡ map bare_of whole → (o.sort ≡ sort.Map → HasUniqueMarks whole) → (o.sort ≡ sort.Counter → sizes (deltas_in whole) < 2 ^ 127) → IsValueBy o.sort whole value) → IsValueOver nodes set o value
  value_of_set set o acts value are exact = exact (acts_over nodes set o) are (λ map. unique_marks_in nodes set (made b setup fit) o) (λ counter. small)
    where
      -- a node without updates
      nobody : Node
      nobody = record { dot = record { client = 0; number = 0 }; deps = set; rank = 0; updates = [] }

      small : sizes (deltas_in (acts_over nodes set o)) < 2 ^ 127
      small = subst (λ acts. sizes (deltas_in acts) < 2 ^ 127) (append-nil (acts_over nodes set o)) (sum_fits b setup fit set nobody o modest_none)

  -- the open updates of a client are modest
  pub open_modest : (a m : ℕ) → IsClient setup a → IsModest (draft_updates (client_at b setup a m))
  open_modest a m client = (session_held b setup fit a m client).draft

  -- and the value at a moment is that of the acts in its basis and of the open updates
  pub value_at : (read : ValueRead) (acts : List BareAct) → IsClient setup read.actor → acts ≡ map bare_of (acts_with nodes (basis_at b setup read.actor read.place) (open_node b (client_at b setup read.actor read.place)) read.object) → ((whole : List Act) → acts ≡ map bare_of whole → (read.object.sort ≡ sort.Map → HasUniqueMarks whole) → (read.object.sort ≡ sort.Counter → sizes (deltas_in whole) < 2 ^ 127) → IsValueBy read.object.sort whole read.value) → IsValueAt b setup read
  value_at read acts client are exact =
      let set = basis_at b setup read.actor read.place in
      let last = open_node b (client_at b setup read.actor read.place) in
      let o = read.object in
      let unique = unique_marks nodes set last (well_issued b setup fit) (open_over b setup fit read.actor read.place client) o in
      exact (acts_with nodes set last o) are (λ map. unique) (λ counter. sum_fits b setup fit set last o (open_modest read.actor read.place client))

  -- the client at a read, as its replay shows it, has the open node of the moment
  pub last_there : (a m : ℕ) (r : Replay) (last : BareNode) → IsClient setup a → Shows r (client_at b setup a m) → ((setup : Setup) (s : Client) → FitsWith b setup → Shows r s → IsInRange s → length s.vector ≡ b.n → last ≡ bare_node (open_node b s)) → last ≡ bare_node (open_node b (client_at b setup a m))
  last_there a m r last client shows node =
      node setup (client_at b setup a m) fit shows (in_range_at b.n (a - 1) setup.capacity m (notes_of b a) (fit.follows a client)) (wide_after b.n (a - 1) setup.capacity (take m (notes_of b a)))

  -- the object that is found at a read is the one that was read
  pub read_there : (read : ValueRead) (found : ObjectId) (log : Logged) → Reads b setup read → log ≡ log_of b read.actor → Some found ≡ read_of (slice_get log.notes read.place) → found ≡ read.object
  read_there read found log r is there =
      same_Some found read.object (there ∙ (ap (λ (l : Logged). read_of (slice_get l.notes read.place)) is ∙ (ap read_of r.there ∙ ap read_in r.deed_is)))

  -- its value is the only one
  pub same_value : (read : ValueRead) (value : Value) → Reads b setup read → IsValueAt b setup (record read { value = value }) → value ≡ read.value
  same_value read value r is = let h = values b setup fit in sym (h.one read value r.client (h.reads read r) is)
