-- Over each closed set the fold of the operations has the value that is defined by what sees what.
use Rattle.std.proofs.Common.{◌≡◌, ℕ, ◌+◌, ◌≤◌, max, inl, inr, List, [], ◌∷◌, refl, ap, subst, arith}
use Rattle.std.proofs.lemmas.List.{append-nil}
use Rattle.std.proofs.lemmas.Option.{none-some}
use Rattle.list_core.specs.Members.{In}
use Rattle.list_core.proofs.Members.{In_from_map}
use Rattle.ids_core.specs.declared.ids.Dot.{Dot}
use Rattle.ids_core.specs.declared.object.ObjectId.{ObjectId}
use Rattle.run_book.specs.Setups.{Setup}
use Rattle.run_book.specs.declared.book.Book.{Book}
use Rattle.run_book.specs.Fit.{FitsWith}
use Rattle.tx_graph.specs.Nodes.{Node, Closed}
use Rattle.tx_graph.specs.Values.{IsValueBy, IsValueOver, acts_over}
use Rattle.run_book.specs.Graphs.{node_of, committed, graph}
use Rattle.run_book.proofs.Sessions.{modest_none}
use Rattle.run_book.proofs.Causal.Commits.{committed_is}
use Rattle.run_book.proofs.Causal.InView.{ops_in}
use Rattle.run_book.proofs.Causal.OpenNodes.{IsOpenOver}
use Rattle.run_book.proofs.Causal.Sums.{sum_fits}
use Rattle.run_book.proofs.Causal.FoldedValues.{folded, folded_over}
use Rattle.run_book.proofs.Causal.Views.{well_issued}
use Rattle.run_book.proofs.Causal.Acts.{acts_with}

-- the greatest rank of the nodes, and 0 of none
abbrev top_rank : List Node → ℕ
top_rank [] = 0
top_rank (t ∷ ts) = max t.rank (top_rank ts)

-- no node's rank is above it
below_top : (ts : List Node) (t : Node) → In t ts → t.rank ≤ top_rank ts
below_top [] t i = absurd i
below_top (u ∷ ts) t (inl same) = omega (arith, ap (λ (t : Node). t.rank) same)
below_top (u ∷ ts) t (inr i) = omega (arith, below_top ts t i)

module _ (b : Book) (setup : Setup) (fit : FitsWith b setup) (set : List Dot) (closed : Closed (graph b setup) set) (o : ObjectId) where
  -- the graph of the book
  abbrev nodes : List Node
  nodes = graph b setup

  -- a node of nobody, without updates, that depends on the set
  abbrev nobody : Node
  nobody = record { dot = record { client = 0; number = 0 }; deps = set; rank = top_rank nodes + 1; updates = [] }

  -- it is not in the set, since clients are numbered from 1
  nobody_fresh : In nobody.dot set → ⊥
  nobody_fresh i =
      let t = closed.in_graph nobody.dot i in
      let m = In_from_map (node_of b) (committed b setup) t.0 t.1 in
      let c = committed_is b setup fit m.0 m.1 in
      let zero_client : t.0.dot.client ≡ 0 = ap (λ (d : Dot). d.client) t.2 in
      omega (arith, c.low, zero_client, ap (λ (t : Node). t.dot.client) m.2)

  -- so it is open over the set
  nobody_open : IsOpenOver nodes set nobody
  nobody_open = record {
    closed = closed;
    deps = refl;
    fresh = nobody_fresh;
    above = λ t i dep. let le = below_top nodes t i in omega (arith, le);
    issued = record { each = λ k u there. absurd (none-some u there) };
    kinds = record { each = λ u i. absurd i };
  }

  -- the fold of the operations in the set has the value over it
  pub over_set : IsValueOver nodes set o (folded o (ops_in nodes set o))
  over_set =
      subst (λ acts. IsValueBy o.sort acts (folded o (ops_in nodes set o))) (append-nil (acts_over nodes set o))
      (subst (λ l. IsValueBy o.sort (acts_with nodes set nobody o) (folded o l)) (append-nil (ops_in nodes set o))
      (folded_over nodes set nobody (well_issued b setup fit) nobody_open o (sum_fits b setup fit set nobody o modest_none)))
