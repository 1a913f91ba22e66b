-- What the updates of commits are over are identifiers of updates of commits, and so in range.
use Rattle.std.proofs.Common.{◌≡◌, ℕ, ◌+◌, ◌-◌, ◌≤◌, inl, inr, List, length, Some, refl, sym, ap, ◌∙◌, subst, arith}
use Rattle.std.specs.Prelude.{slice_get, All}
use Rattle.std.proofs.lemmas.Option.{slice_get_within}
use Rattle.std.proofs.lemmas.List.{length-take}
use Rattle.std.proofs.lemmas.List.Elements.{All-nil}
use Rattle.list_core.specs.Members.{In}
use Rattle.list_core.proofs.Members.{In-All, In_from_map}
use Rattle.list_core.proofs.Gets.{In_get}
use Rattle.ids_core.specs.declared.ids.Dot.{Dot}
use Rattle.ids_core.specs.declared.ids.OpId.{OpId}
use Rattle.ids_core.specs.declared.ids.Mark.{Mark}
use Rattle.ids_core.specs.declared.limits.TheConstants.{MOST_CLIENTS, MOST_UPDATES, MOST_NUMBER}
use Rattle.ids_core.specs.declared.object.ObjectId.{ObjectId}
use Rattle.tx_core.specs.declared.op.Op.{Op}
use Rattle.tx_core.specs.declared.op.Op.TheVariants.{Inc, Write, Add, Remove, Put, Erase}
use Rattle.tx_core.specs.declared.tx.Update.{Update}
use Rattle.tx_core.specs.declared.tx.Tx.{Tx}
use Rattle.tx_core.specs.Checks.{IsTag}
use Rattle.tx_core.specs.Ops.{over_of, name_of}
use Rattle.tx_graph.specs.Nodes.{Node}
use Rattle.run_book.specs.Setups.{Setup}
use Rattle.run_book.specs.declared.book.Book.{Book}
use Rattle.run_book.specs.Parts.{IsClient}
use Rattle.run_book.specs.Fit.{FitsWith}
use Rattle.run_book.specs.Graphs.{node_of, committed, graph, commits_at}
use Rattle.run_book.proofs.Numbered.{numbered_at}
use Rattle.run_book.proofs.Held.{dot_at}
use Rattle.run_book.proofs.Causal.Closure.{session_held}
use Rattle.run_book.proofs.Causal.InView.{node_ops, with_first, IsIssued}
use Rattle.run_book.proofs.Causal.SetNodes.{StandsIn, over_from}
use Rattle.run_book.proofs.Causal.Acts.{op_of_act, node_act, is_act_of}
use Rattle.run_book.proofs.Causal.CommitMoments.{commit_at}
use Rattle.run_book.proofs.Causal.Views.{session_issued}

-- ---- nodes

-- the dot of a node is in range, and its updates are few
pub record IsInRange (t : Node) : Type 0 where
  pub client : (1 ≤ t.dot.client) × (t.dot.client ≤ MOST_CLIENTS)
  pub number : (1 ≤ t.dot.number) × (t.dot.number ≤ MOST_NUMBER)
  pub few : length t.updates ≤ MOST_UPDATES

-- so it is of the node with its first updates alone
first_in_range : (k : ℕ) (t : Node) → IsInRange t → IsInRange (with_first k t)
first_in_range k t range = record { client = range.client; number = range.number; few = omega (arith, length-take k t.updates, range.few) }

-- then the identifier of each of its operations is in range
op_tag : (o : ObjectId) (t : Node) (op : Mark × Op) → IsInRange t → In op (node_ops o t) → IsTag op.0.id
op_tag o t op range i =
    let a = node_act o t op i in
    let f = is_act_of o t a.act a.there in
    let within = slice_get_within t.updates f.k f.u f.there in
    let same : op.0.id ≡ record { dot = t.dot; place = f.k } = ap (λ (op : Mark × Op). op.0.id) (a.is ∙ ap op_of_act f.is) in
    subst IsTag (sym same) (record { client = range.client; number = range.number; place = omega (arith, within, range.few) })

-- what an operation is over, it is over under its word or key
over_named : (P : OpId → Type 0) (op : Op) → ((name : List ℕ) (id : OpId) → name_of op ≡ Some name → In id (over_of op) → P id) → All P (over_of op)
over_named P (Inc delta) each = All-nil P
over_named P (Write word) each = All-nil P
over_named P (Add word over) each = In-All P over (λ id i. each word id refl i)
over_named P (Remove word over) each = In-All P over (λ id i. each word id refl i)
over_named P (Put key word over) each = In-All P over (λ id i. each key id refl i)
over_named P (Erase key over) each = In-All P over (λ id i. each key id refl i)

module _ (nodes : List Node) (ranges : (t : Node) → In t nodes → IsInRange t) (t : Node) (range : IsInRange t) (issued : IsIssued nodes t) where
  -- where all nodes of a graph are so, what an update is over that was live in its issuer's view is in range
  issued_tags : (k : ℕ) (u : Update) → slice_get t.updates k ≡ Some u → All IsTag (over_of u.op)
  issued_tags k u there = over_named IsTag u.op each
    where
      of : (s : Node) → StandsIn nodes t.deps (with_first k t) s → IsInRange s
      of s (inl i) = ranges s i.0
      of s (inr same) = subst IsInRange (sym same) (first_in_range k t range)

      each : (name : List ℕ) (id : OpId) → name_of u.op ≡ Some name → In id (over_of u.op) → IsTag id
      each name id n i =
          let live = ((issued.each k u there).over name id n).0 i in
          let r = over_from (node_ops u.object) nodes t.deps (with_first k t) live.op live.live.there in
          subst IsTag live.is (op_tag u.object r.0 live.op (of r.0 r.1) r.2)

-- ---- a book

module _ (b : Book) (setup : Setup) (fit : FitsWith b setup) where
  -- the node of each commit of a session has its dot in range, and few updates
  pub commit_in_range : (a m : ℕ) (t : Tx) → IsClient setup a → In t (commits_at b setup a m) → IsInRange (node_of b t)
  commit_in_range a m t client i =
      let C = commits_at b setup a m in
      let held = session_held b setup fit a m client in
      let g = In_get C t i in
      let dot = numbered_at (λ (t : Tx). t.dot) (dot_at (a - 1)) 1 C g.0 t held.dots g.1 in
      let who : t.dot.client ≡ a - 1 = ap (λ (d : Dot). d.client) dot in
      let which : t.dot.number ≡ 1 + g.0 = ap (λ (d : Dot). d.number) dot in
      let within = slice_get_within C g.0 t g.1 in
      record {
        client = (omega (arith, who, client.low), omega (arith, who, client.low, client.high, fit.form.clients_range.1));
        number = (omega (arith, which), omega (arith, which, within, held.number, held.paid, held.ranked));
        few = (held.modest g.0 t g.1).few;
      }

  -- so is it with each node of the graph
  node_in_range : (t : Node) → In t (graph b setup) → IsInRange t
  node_in_range t i =
      let m = In_from_map (node_of b) (committed b setup) t i in
      let r = commit_at b setup fit m.0 m.1 in
      subst IsInRange (sym m.2) (commit_in_range r.actor r.moment m.0 r.client r.there)

  -- what the updates of each commit are over is in range
  pub commit_tags : (a m : ℕ) (t : Tx) → IsClient setup a → In t (commits_at b setup a m) → (k : ℕ) (u : Update) → slice_get t.updates k ≡ Some u → All IsTag (over_of u.op)
  commit_tags a m t client i = issued_tags (graph b setup) node_in_range (node_of b t) (commit_in_range a m t client i) ((session_issued b setup fit a m client).commits t i)
