-- The deltas of a book are few and small enough for sums that are not wrapped.
use Rattle.std.proofs.Common.{◌≡◌, ℕ, ◌+◌, ◌*◌, ◌≤◌, ◌<◌, ◌^◌, ℤ, Bool, true, false, cond, List, [], ◌∷◌, ◌++◌, map, length, refl, sym, ap, ◌∙◌, subst, arith}
use Rattle.std.specs.Prelude.{flat_map}
use Rattle.std.specs.List.{range_with_len, cons_option, sum_by}
use Rattle.std.proofs.lemmas.List.Folds.{flat_map-map}
use Rattle.std.proofs.lemmas.List.Concat.{length-flat_map}
use Rattle.std.proofs.lemmas.List.FromFn.{length-range_with_len}
use Rattle.list_core.specs.Members.{In}
use Rattle.ids_core.specs.declared.ids.Dot.{Dot}
use Rattle.ids_core.specs.declared.object.ObjectId.{ObjectId}
use Rattle.obj_counter.specs.Counter.{deltas, sizes}
use Rattle.tx_core.specs.declared.op.Op.{Op}
use Rattle.tx_core.specs.declared.op.Op.TheVariants.{Inc}
use Rattle.tx_core.specs.declared.tx.Tx.{Tx}
use Rattle.tx_core.specs.Ops.{counter_op, marked}
use Rattle.dc_talk.specs.Records.{has}
use Rattle.dc_talk.specs.Rule.{commits_of}
use Rattle.run_book.specs.Setups.{Setup}
use Rattle.run_book.specs.declared.book.Book.{Book}
use Rattle.tx_graph.specs.Nodes.{Node}
use Rattle.run_book.specs.Parts.{notes_of}
use Rattle.run_book.specs.Fit.{FitsWith}
use Rattle.tx_graph.specs.Values.{Act, delta_of, nodes_in, change_of, deltas_in, acts_from, acts_of}
use Rattle.run_book.specs.Graphs.{node_of, committed, graph}
use Rattle.run_book.proofs.Sizes.{sizes-append, sizes-flat_map, sum_by_most, sum_by_filter, deltas_of}
use Rattle.run_book.proofs.Sessions.{IsModest}
use Rattle.list_core.proofs.Ranges.{In_from_range}
use Rattle.run_book.proofs.Causal.Closure.{session_held}
use Rattle.run_book.proofs.Causal.InView.{ops_over}
use Rattle.run_book.proofs.Causal.Acts.{op_of_act, acts_over_are, acts_with}
use Rattle.run_book.proofs.Causal.CommitMoments.{all_commits, commit_modest}
use Rattle.std.proofs.lemmas.List.Elements.{filter_map-append}
use Rattle.list_core.proofs.Images.{filter_map-flat_map, flat_map-agree}
use Rattle.tx_core.specs.declared.tx.Update.{Update}
use Rattle.ids_core.specs.Ids.{same_object}
use Rattle.tx_core.specs.Operations.{mark}

-- ---- the deltas of operations

-- what a counter takes of the operations of acts are the deltas of the acts
deltas_of_acts : (acts : List Act) → deltas (marked counter_op (map op_of_act acts)) ≡ deltas_in acts
deltas_of_acts [] = refl
deltas_of_acts (act ∷ acts) = go act.op (deltas_of_acts acts)
  where
    go : (op : Op) → deltas (marked counter_op (map op_of_act acts)) ≡ deltas_in acts → deltas (marked counter_op ((act.mark, op) ∷ map op_of_act acts)) ≡ cons_option (delta_of (change_of op)) (deltas_in acts)
    go (Inc delta) rest = ap (λ l. delta ∷ l) rest
    go _ rest = rest

-- so it is with the operations and the acts over a set and an open node
pub deltas_of_ops : (nodes : List Node) (set : List Dot) (last : Node) (o : ObjectId) → deltas (marked counter_op (ops_over nodes set last o)) ≡ deltas_in (acts_with nodes set last o)
deltas_of_ops nodes set last o = ap (λ ops. deltas (marked counter_op ops)) (sym (acts_over_are nodes set last o)) ∙ deltas_of_acts (acts_with nodes set last o)

-- ---- the deltas of nodes

-- the deltas of the acts on an object among updates
deltas_from : (o : ObjectId) (t : Node) (place : ℕ) (updates : List Update) → deltas_in (acts_from o t place updates) ≡ deltas_of o updates
deltas_from o t place [] = refl
deltas_from o t place (u ∷ updates) = go (same_object u.object o) (deltas_from o t (place + 1) updates)
  where
    go : (b : Bool) → deltas_in (acts_from o t (place + 1) updates) ≡ deltas_of o updates → deltas_in (cond b (record { mark = mark t.rank t.dot place; deps = t.deps; op = u.op } ∷ acts_from o t (place + 1) updates) (acts_from o t (place + 1) updates)) ≡ cond b (cons_option (delta_of (change_of u.op)) (deltas_of o updates)) (deltas_of o updates)
    go true rest = ap (λ l. cons_option (delta_of (change_of u.op)) l) rest
    go false rest = rest

-- the deltas of the acts over a set of dots and an open node
pub deltas_over : (nodes : List Node) (set : List Dot) (last : Node) (o : ObjectId) → deltas_in (acts_with nodes set last o) ≡ flat_map (λ t. deltas_of o t.updates) (nodes_in nodes set) ++ deltas_of o last.updates
deltas_over nodes set last o =
    filter_map-append (λ (act : Act). delta_of (change_of act.op)) (flat_map (acts_of o) (nodes_in nodes set)) (acts_of o last)
    ∙ (ap (λ l. l ++ deltas_in (acts_of o last)) (filter_map-flat_map (λ (act : Act). delta_of (change_of act.op)) (acts_of o) (nodes_in nodes set) ∙ flat_map-agree (λ t. deltas_in (acts_of o t)) (λ t. deltas_of o t.updates) (nodes_in nodes set) (λ t i. deltas_from o t 0 t.updates))
    ∙ ap (λ l. flat_map (λ t. deltas_of o t.updates) (nodes_in nodes set) ++ l) (deltas_from o last 0 last.updates))

-- ---- their sizes

-- the deltas of a node
abbrev node_deltas : ObjectId → Node → List ℤ
node_deltas o t = deltas_of o t.updates

module _ (b : Book) (setup : Setup) (fit : FitsWith b setup) where
  -- a client has at most 2^62 commits
  few_of_client : (client : ℕ) → In client (range_with_len 1 setup.clients) → length (commits_of b.n client setup.capacity (notes_of b (client + 1))) ≤ 2 ^ 62
  few_of_client client i =
      let r = In_from_range 1 setup.clients client i in
      let held = session_held b setup fit (client + 1) (length (notes_of b (client + 1))) (record { low = omega (arith, r.0); high = omega (arith, r.1) }) in
      subst (λ l. length l ≤ 2 ^ 62) (all_commits b setup client) (omega (arith, held.number, held.paid, held.ranked))

  -- so a book has at most 1,024 times as many
  few_commits : length (committed b setup) ≤ 1024 * 2 ^ 62
  few_commits =
      let commits = λ (client : ℕ). commits_of b.n client setup.capacity (notes_of b (client + 1)) in
      let most = sum_by_most (λ client. length (commits client)) (2 ^ 62) (range_with_len 1 setup.clients) few_of_client in
      let range = fit.form.clients_range.1 in
      omega (arith, length-flat_map commits (range_with_len 1 setup.clients), most, length-range_with_len 1 setup.clients, range)

  -- the deltas of all nodes have at most this size together
  graph_sizes : (o : ObjectId) → sum_by (λ t. sizes (node_deltas o t)) (graph b setup) ≤ 256000000000000 * (1024 * 2 ^ 62)
  graph_sizes o =
      let tx_deltas = λ (t : Tx). deltas_of o t.updates in
      let most = sum_by_most (λ t. sizes (tx_deltas t)) 256000000000000 (committed b setup) (λ t i. let m = commit_modest b setup fit t i in omega (arith, m.sized o, m.few)) in
      let same : sizes (flat_map (node_deltas o) (graph b setup)) ≡ sizes (flat_map tx_deltas (committed b setup)) = ap sizes (flat_map-map (node_deltas o) (node_of b) (committed b setup)) in
      omega (arith, most, few_commits, same, sizes-flat_map (node_deltas o) (graph b setup), sizes-flat_map tx_deltas (committed b setup))

  -- a sum over a set of the graph and modest open updates is small
  pub sum_small : (set : List Dot) (last : Node) (o : ObjectId) → IsModest last.updates → sizes (deltas_in (acts_with (graph b setup) set last o)) ≤ 2 ^ 120
  sum_small set last o modest =
      let nodes = graph b setup in
      let whole = ap sizes (deltas_over nodes set last o) ∙ sizes-append (flat_map (node_deltas o) (nodes_in nodes set)) (node_deltas o last) in
      let in_set = sum_by_filter (λ t. sizes (node_deltas o t)) (λ t. has t.dot set) nodes in
      omega (arith, whole, in_set, sizes-flat_map (node_deltas o) (nodes_in nodes set), graph_sizes o, modest.sized o, modest.few)

  -- so it is not wrapped
  pub sum_fits : (set : List Dot) (last : Node) (o : ObjectId) → IsModest last.updates → sizes (deltas_in (acts_with (graph b setup) set last o)) < 2 ^ 127
  sum_fits set last o modest =
      let small = sum_small set last o modest in
      omega (arith, small)
