-- What a session has of an object is of all operations of its basis and of its open ones, at each moment of its log.
use Rattle.std.proofs.Common.{◌≡◌, ◌↔◌, ℕ, ◌-◌, List, ◌++◌, Some, refl, sym, ap, ◌∙◌, subst, arith}
use Rattle.std.specs.Prelude.{flat_map}
use Rattle.std.proofs.lemmas.List.Sums.{fold-append}
use Rattle.list_core.specs.Members.{In}
use Rattle.list_core.proofs.Members.{In_from_map}
use Rattle.ids_core.specs.declared.ids.Mark.{Mark}
use Rattle.ids_core.specs.declared.object.ObjectId.{ObjectId}
use Rattle.ids_core.specs.Kinds.{Distinct}
use Rattle.tx_core.specs.declared.op.Op.{Op}
use Rattle.tx_core.specs.declared.tx.Tx.{Tx}
use Rattle.tx_core.specs.declared.state.State.{State}
use Rattle.tx_core.specs.States.{empty_of, step, fold_of, tags_of}
use Rattle.tx_core.specs.Objects.{AreOf, IsLiveId}
use Rattle.tx_core.proofs.Folds.{fold_of-order}
use Rattle.tx_core.proofs.Values.{tags_live}
use Rattle.tx_core.specs.Operations.{ops_of}
use Rattle.dc_talk.specs.Clients.{Client, cached, view, draft_updates}
use Rattle.run_book.specs.Setups.{Setup}
use Rattle.run_book.specs.declared.book.Book.{Book}
use Rattle.run_book.specs.Parts.{notes_of, IsClient}
use Rattle.run_book.specs.Fit.{FitsWith}
use Rattle.tx_graph.specs.Nodes.{Node}
use Rattle.run_book.specs.Graphs.{node_of, committed, graph, basis, basis_at, client_at, open_node, commits_at}
use Rattle.run_book.proofs.Causal.Closure.{made, closed_basis}
use Rattle.run_book.proofs.Causal.OnBasis.{open_fresh, basis_ranks, cached_of_basis}
use Rattle.run_book.proofs.Causal.InView.{node_ops, ops_in, IsIssued}
use Rattle.run_book.proofs.Causal.Operations.{distinct_in, distinct_over, HasKinds, kinds_over}
use Rattle.run_book.proofs.Causal.OpenNodes.{WellIssued, IsOpenOver}
use Rattle.run_book.proofs.Causal.CommitMoments.{commit_at}
use Rattle.run_book.proofs.Causal.Drafts.{HoldsOf}
use Rattle.run_book.proofs.Causal.Changes.{kinds_after}
use Rattle.run_book.proofs.Causal.Issued.{ops_now, ShowsTags, issued_after}

module _ (b : Book) (setup : Setup) (fit : FitsWith b setup) where
  -- the graph of the book
  abbrev nodes : List Node
  nodes = graph b setup

  -- what holds of the node of each commit holds of each node of the graph
  of_nodes : (P : Node → Type 0) → ((t : Tx) → In t (committed b setup) → P (node_of b t)) → (t : Node) → In t nodes → P t
  of_nodes P each t i = let m = In_from_map (node_of b) (committed b setup) t i in subst P (sym m.2) (each m.0 m.1)

  -- the updates of each session are of their objects' kinds
  session_kinds : (a m : ℕ) → IsClient setup a → HoldsOf (λ s. HasKinds (draft_updates s)) (λ t. HasKinds t.updates) (client_at b setup a m) (commits_at b setup a m)
  session_kinds a m c = kinds_after b.n (a - 1) setup.capacity (notes_of b a) (fit.follows a c) m

  -- so are those of each node
  graph_kinds : (t : Node) → In t nodes → HasKinds t.updates
  graph_kinds = of_nodes (λ t. HasKinds t.updates) (λ t i. let r = commit_at b setup fit t i in (session_kinds r.actor r.moment r.client).commits t r.there)

  -- ---- a session at one moment

  module _ (a m : ℕ) (c : IsClient setup a) where
    -- the session
    abbrev s : Client
    s = client_at b setup a m

    -- the operations of the object in its basis, and its open ones
    abbrev pub now : ObjectId → List (Mark × Op)
    now o = ops_now b nodes s o

    -- they have different identifiers
    distinct_now : (o : ObjectId) → Distinct (now o)
    distinct_now o = distinct_over nodes (basis b s) (open_node b s) o (made b setup fit) (open_fresh b setup fit a m c)

    -- they are of the object's kind
    kinds_now : (o : ObjectId) → AreOf o.sort (now o)
    kinds_now o = kinds_over nodes (basis b s) (open_node b s) o graph_kinds (session_kinds a m c).draft

    -- what the session has of an object is their fold
    pub view_now : (o : ObjectId) (state : State) → cached o s.vector s.cache ≡ Some state → view s o state ≡ fold_of (empty_of o.sort) (now o)
    view_now o state found =
        let of_basis = cached_of_basis b setup fit a m o state c found in
        let pending = flat_map (ops_of o) s.pending in
        let start = empty_of o.sort in
        let based = ops_in nodes (basis b s) o in
        let order = fold_of-order start based (of_basis.ops ++ pending) of_basis.all (distinct_in nodes (basis b s) o (made b setup fit)) in
        ap (λ state. view s o state) of_basis.state_is
        ∙ (fold-append step (fold_of start of_basis.ops) pending (node_ops o (open_node b s))
        ∙ (ap (λ state. fold_of state (node_ops o (open_node b s))) (sym (fold-append step start of_basis.ops pending) ∙ sym order)
        ∙ sym (fold-append step start based (node_ops o (open_node b s)))))

    -- so its tags are the identifiers that are live there
    shows_tags : ShowsTags b nodes s
    shows_tags = record { holds = λ o state found name id. subst (λ state. In id (tags_of state name) ↔ IsLiveId (now o) name id) (sym (view_now o state found)) (tags_live o.sort (now o) name id (distinct_now o) (kinds_now o)) }

  -- ---- the graph, and open nodes

  -- the updates of each session are over what was live in the views in which they were issued
  pub session_issued : (a m : ℕ) → IsClient setup a → HoldsOf (λ s. IsIssued nodes (open_node b s)) (λ t. IsIssued nodes (node_of b t)) (client_at b setup a m) (commits_at b setup a m)
  session_issued a m c = issued_after b nodes b.n (a - 1) setup.capacity (notes_of b a) (fit.follows a c) (λ p. shows_tags a p c) m

  -- so are those of each node
  pub well_issued : WellIssued nodes
  well_issued = record {
    made = made b setup fit;
    issued = of_nodes (IsIssued nodes) (λ t i. let r = commit_at b setup fit t i in (session_issued r.actor r.moment r.client).commits t r.there);
    kinds = graph_kinds;
  }

  -- the node of a session's open transaction is open over its basis
  pub open_over : (a m : ℕ) → IsClient setup a → IsOpenOver nodes (basis_at b setup a m) (open_node b (client_at b setup a m))
  open_over a m c = record {
    closed = closed_basis b setup fit a m c;
    deps = refl;
    fresh = open_fresh b setup fit a m c;
    above = λ t i dep. let le = basis_ranks b setup fit a m t c i dep in omega (arith, le);
    issued = (session_issued a m c).draft;
    kinds = (session_kinds a m c).draft;
  }
