-- How the open transaction of a session, its clock and its cache stand to its basis.
use Rattle.std.proofs.Common.{◌≡◌, ℕ, ◌+◌, ◌-◌, ◌≤◌, ⊎_elim, List, ◌++◌, Some, sym, ap, ◌∙◌, subst, arith}
use Rattle.std.specs.Prelude.{filter, flat_map}
use Rattle.std.proofs.lemmas.List.Concat.{flat_map-append}
use Rattle.std.proofs.lemmas.List.Folds.{flat_map-map}
use Rattle.list_core.specs.Members.{In}
use Rattle.list_core.specs.Permutations.{Perm}
use Rattle.list_core.proofs.Members.{In_either, In_from_map}
use Rattle.list_core.proofs.Blocks.{turned_order, flat_order}
use Rattle.ids_core.specs.declared.ids.Dot.{Dot}
use Rattle.ids_core.specs.declared.ids.Mark.{Mark}
use Rattle.ids_core.specs.declared.object.ObjectId.{ObjectId}
use Rattle.tx_core.specs.declared.op.Op.{Op}
use Rattle.tx_core.specs.declared.tx.Tx.{Tx}
use Rattle.tx_core.specs.declared.state.State.{State}
use Rattle.tx_core.specs.States.{empty_of, fold_of}
use Rattle.dc_talk.specs.Records.{has}
use Rattle.dc_talk.specs.Clients.{Client, cached, next_dot}
use Rattle.run_book.specs.Setups.{Setup}
use Rattle.run_book.specs.declared.book.Book.{Book}
use Rattle.run_book.specs.Parts.{IsClient}
use Rattle.run_book.specs.Fit.{FitsWith}
use Rattle.tx_graph.specs.Nodes.{Node}
use Rattle.run_book.specs.Graphs.{cover, own_dots, node_of, committed, graph, basis, basis_at, client_at}
use Rattle.list_core.proofs.Images.{filter-map}
use Rattle.tx_core.specs.Operations.{ops_of}
use Rattle.run_book.proofs.Held.{dot_at}
use Rattle.run_book.proofs.Dots.{own_dots_are}
use Rattle.run_book.proofs.Causal.Cover.{cover_in}
use Rattle.run_book.proofs.Causal.Commits.{own_commit, carried, one_tx}
use Rattle.run_book.proofs.Causal.ServedStates.{IsServed, cached_served}
use Rattle.run_book.proofs.Causal.SessionStates.{standing}
use Rattle.run_book.proofs.Causal.Closure.{session_held, is_so_far}
use Rattle.run_book.proofs.Causal.BasisOrder.{basis_order}
use Rattle.run_book.proofs.Causal.InView.{node_ops, ops_in}

-- a state of the object with the pending commits behind it is of the operations of the session's basis, each once
pub record IsOfBasis (b : Book) (nodes : List Node) (s : Client) (o : ObjectId) (state : State) : Type 0 where
  pub ops : List (Mark × Op)
  pub state_is : state ≡ fold_of (empty_of o.sort) ops
  pub all : Perm (ops_in nodes (basis b s) o) (ops ++ flat_map (ops_of o) s.pending)

module _ (b : Book) (setup : Setup) (fit : FitsWith b setup) where
  -- the open transaction is not in the basis
  pub open_fresh : (a m : ℕ) → IsClient setup a → In (next_dot (client_at b setup a m)) (basis_at b setup a m) → ⊥
  open_fresh a m c i = ⊎_elim covered own (In_either (cover b s.vector) (own_dots s.client s.own) (next_dot s) i)
    where
      s : Client
      s = client_at b setup a m

      who : s.client ≡ a - 1
      who = (session_held b setup fit a m c).who

      covered : In (next_dot (client_at b setup a m)) (cover b (client_at b setup a m).vector) → ⊥
      covered j =
          let st = standing b setup fit a c m in
          let h = session_held b setup fit a m c in
          let r = st.own_in (s.own + 1) (subst (λ client. In (dot_at client (s.own + 1)) (cover b s.vector)) who j) in
          omega (arith, r.1, h.below)

      own : In (next_dot (client_at b setup a m)) (own_dots (client_at b setup a m).client (client_at b setup a m).own) → ⊥
      own j = let o = own_dots_are s.client s.own (next_dot s) j in omega (arith, o.high, ap (λ (d : Dot). d.number) o.is)

  -- no rank in the basis is above the clock
  pub basis_ranks : (a m : ℕ) (t : Node) → IsClient setup a → In t (graph b setup) → In t.dot (basis_at b setup a m) → t.rank ≤ (client_at b setup a m).clock
  basis_ranks a m t c i j = go (In_from_map (node_of b) (committed b setup) t i)
    where
      s : Client
      s = client_at b setup a m

      go : (tx : Tx) × In tx (committed b setup) × (t ≡ node_of b tx) → t.rank ≤ (client_at b setup a m).clock
      go (tx, k, is) = ⊎_elim covered own (In_either (cover b s.vector) (own_dots s.client s.own) tx.dot (subst (λ d. In d (basis_at b setup a m)) dot j))
        where
          dot : t.dot ≡ tx.dot
          dot = ap (λ (t : Node). t.dot) is

          rank : t.rank ≡ tx.rank
          rank = ap (λ (t : Node). t.rank) is

          covered : In tx.dot (cover b (client_at b setup a m).vector) → t.rank ≤ (client_at b setup a m).clock
          covered l =
              let x = cover_in b s.vector tx.dot l in
              let same : x.item.tx ≡ tx = one_tx b setup fit x.item.tx tx (carried b setup fit x.item.tx (own_commit b setup fit x.centre x.place x.item x.low x.high x.there)) k x.dot in
              omega (arith, (standing b setup fit a c m).ranks tx.dot x, ap (λ (t : Tx). t.rank) same, rank)

          own : In tx.dot (own_dots (client_at b setup a m).client (client_at b setup a m).own) → t.rank ≤ (client_at b setup a m).clock
          own l =
              let o = own_dots_are s.client s.own tx.dot l in
              let h = session_held b setup fit a m c in
              let there = is_so_far b setup fit a m tx c k (ap (λ (d : Dot). d.client) o.is ∙ h.who) (omega (arith, o.high, ap (λ (d : Dot). d.number) o.is)) in
              omega (arith, h.ranks (tx.dot.number - 1) tx there, rank)

  -- a state that the cache has at the session's snapshot, with the pending commits behind it, is of the basis
  pub cached_of_basis : (a m : ℕ) (o : ObjectId) (state : State) → IsClient setup a → cached o (client_at b setup a m).vector (client_at b setup a m).cache ≡ Some state → IsOfBasis b (graph b setup) (client_at b setup a m) o state
  cached_of_basis a m o state c found = record {
    ops = flat_map (ops_of o) served.txs;
    state_is = served.is;
    all = subst (λ l. Perm l (flat_map (ops_of o) served.txs ++ flat_map (ops_of o) s.pending)) (sym in_basis) (turned_order (flat_map (ops_of o) served.txs ++ flat_map (ops_of o) s.pending) (flat_map (ops_of o) based) (subst (λ l. Perm l (flat_map (ops_of o) based)) (flat_map-append (ops_of o) served.txs s.pending) (flat_order (ops_of o) (served.txs ++ s.pending) based (basis_order b setup fit a m o state c served))));
  }
    where
      s : Client
      s = client_at b setup a m

      set : List Dot
      set = basis_at b setup a m

      based : List Tx
      based = filter (λ (t : Tx). has t.dot set) (committed b setup)

      served : IsServed b setup o (client_at b setup a m).vector state
      served = cached_served b setup o s.vector s.cache state (standing b setup fit a c m).cache found

      in_basis : ops_in (graph b setup) (basis b (client_at b setup a m)) o ≡ flat_map (ops_of o) based
      in_basis =
          ap (flat_map (node_ops o)) (filter-map (λ (t : Node). has t.dot set) (node_of b) (committed b setup))
          ∙ flat_map-map (node_ops o) (node_of b) based
