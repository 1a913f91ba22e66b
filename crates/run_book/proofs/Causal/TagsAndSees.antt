-- The acts over a closed set and a node that is open over it meet the facts by which tags tell the same as what sees what.
use Rattle.std.proofs.Common.{◌≡◌, ℕ, ◌<◌, ◌⊎◌, ◌↔◌, inl, inr, ⊎_elim, true, false, List, Some, refl, sym, ap, ◌∙◌, subst, arith}
use Rattle.std.proofs.lemmas.Bool.{cases_Bool}
use Rattle.list_core.specs.Members.{In}
use Rattle.ids_core.specs.declared.ids.Dot.{Dot}
use Rattle.ids_core.specs.declared.ids.OpId.{OpId}
use Rattle.ids_core.specs.declared.ids.Mark.{Mark}
use Rattle.ids_core.specs.declared.object.ObjectId.{ObjectId}
use Rattle.ids_core.specs.Orders.{mark_cmp_total}
use Rattle.ids_core.proofs.Orders.{not_below_itself, below_through, below_by_rank, below_by_place}
use Rattle.tally_core.specs.Sees.{any, Tagged}
use Rattle.tally_core.proofs.Finds.{any_true}
use Rattle.tx_core.specs.declared.op.Op.{Op}
use Rattle.tx_core.specs.Ops.{over_of, name_of, is_add}
use Rattle.tx_core.specs.Objects.{IsLiveId}
use Rattle.tx_graph.specs.Nodes.{Node}
use Rattle.tx_graph.specs.Values.{Act, acts_of, sees}
use Rattle.run_book.proofs.Causal.InView.{node_ops, ops_before, with_first}
use Rattle.run_book.proofs.Causal.SetNodes.{StandsIn, over_from, over_in}
use Rattle.run_book.proofs.Causal.Acts.{op_of_act, HasAct, node_act, node_op, IsActIn, act_in, first_below, first_ops, ops_below, acts_with}
use Rattle.run_book.proofs.Causal.Operations.{dot_of_op}
use Rattle.run_book.proofs.Causal.OpenNodes.{WellIssued, IsOpenOver, one_node, deps_in_set, dep_stands, dep_below, dep_through, issued_at}
use Rattle.run_book.proofs.Causal.ActTests.{adds, adds-true, adds-from, kills, kills-true, kills-from, over, over-true, over-from, none_over, less, IsSeenBy, sees-true, sees-from}

module _ (nodes : List Node) (set : List Dot) (last : Node) (well : WellIssued nodes) (open_last : IsOpenOver nodes set last) (o : ObjectId) where
  -- the acts on the object over the set and the open node
  abbrev acts : List Act
  acts = acts_with nodes set last o

  -- the node and the update that an act is of
  abbrev Source : Act → Type 0
  Source act = IsActIn nodes set last o act

  -- each of the acts has them
  source : (act : Act) → In act acts → Source act
  source act i = act_in nodes set last o act i

  -- an operation of a node that stands there is that of one of the acts
  node_has_act : (t : Node) → StandsIn nodes set last t → (op : Mark × Op) → In op (node_ops o t) → HasAct acts op
  node_has_act t s op i = let a = node_act o t op i in record { act = a.act; there = over_in (acts_of o) nodes set last t s a.act a.there; is = a.is }

  -- ---- the view of an act's issuer

  module _ (q : Act) (f : Source q) where
    -- its dot is that of its node
    dot_is : q.mark.id.dot ≡ f.node.dot
    dot_is = ap (λ (a : Act). a.mark.id.dot) f.update.is

    -- its place is that of its update
    place_is : q.mark.id.place ≡ f.update.k
    place_is = ap (λ (a : Act). a.mark.id.place) f.update.is

    -- its rank is that of its node
    rank_is : q.mark.rank ≡ f.node.rank
    rank_is = ap (λ (a : Act). a.mark.rank) f.update.is

    -- its dependency set is that of its node
    deps_is : q.deps ≡ f.node.deps
    deps_is = ap (λ (a : Act). a.deps) f.update.is

    -- its operation is that of its update
    op_is : q.op ≡ f.update.u.op
    op_is = ap (λ (a : Act). a.op) f.update.is

    -- the operations of the object that its issuer had in view
    abbrev viewed : List (Mark × Op)
    viewed = ops_before nodes f.node f.update.k o

    -- it is over the identifiers of its word or key that are live in the view
    over_live : (w : List ℕ) (id : OpId) → name_of q.op ≡ Some w → In id (over_of q.op) ↔ IsLiveId viewed w id
    over_live w id name =
        subst (λ op. In id (over_of op) ↔ IsLiveId viewed w id) (sym op_is)
        (subst (λ o. In id (over_of f.update.u.op) ↔ IsLiveId (ops_before nodes f.node f.update.k o) w id) f.update.object
        (((issued_at nodes set last well open_last f.node f.stands).each f.update.k f.update.u f.update.there).over w id (ap name_of (sym op_is) ∙ name)))

    -- it sees what is in the view
    view_seen : (op : Mark × Op) → In op viewed → IsSeenBy q op.0.id
    view_seen op i = let r = over_from (node_ops o) nodes f.node.deps (with_first f.update.k f.node) op i in go r.0 r.1 r.2
      where
        go : (t : Node) → StandsIn nodes f.node.deps (with_first f.update.k f.node) t → In op (node_ops o t) → IsSeenBy q op.0.id
        go t (inl s) j = inl (subst (λ d. In d q.deps) (sym (dot_of_op o t op j)) (subst (λ l. In t.dot l) (sym deps_is) s.1))
        go t (inr same) j =
            let k : In op (node_ops o (with_first f.update.k f.node)) = subst (λ t. In op (node_ops o t)) same j in
            let below = first_below o f.update.k f.node op k in
            inr (dot_of_op o (with_first f.update.k f.node) op k ∙ sym dot_is, omega (arith, below, place_is))

    -- what is in the view is the operation of an act
    view_act : (op : Mark × Op) → In op viewed → HasAct acts op
    view_act op i = let r = over_from (node_ops o) nodes f.node.deps (with_first f.update.k f.node) op i in go r.0 r.1 r.2
      where
        go : (t : Node) → StandsIn nodes f.node.deps (with_first f.update.k f.node) t → In op (node_ops o t) → HasAct acts op
        go t (inl s) j = node_has_act t (inl (s.0, deps_in_set nodes set last well open_last f.node f.stands t.dot s.1)) op j
        go t (inr same) j = node_has_act f.node f.stands op (first_ops o f.update.k f.node op (subst (λ t. In op (node_ops o t)) same j))

    -- the operation of an act that it sees is in the view
    seen_in_view : (p : Act) → Source p → sees q p ≡ true → In (op_of_act p) viewed
    seen_in_view p g s = ⊎_elim by_deps by_place (sees-true q p s)
      where
        p_op : In (op_of_act p) (node_ops o g.node)
        p_op = node_op o g.node p g.own

        p_dot : p.mark.id.dot ≡ g.node.dot
        p_dot = ap (λ (a : Act). a.mark.id.dot) g.update.is

        put : (t : Node) → StandsIn nodes f.node.deps (with_first f.update.k f.node) t → In (op_of_act p) (node_ops o t) → In (op_of_act p) viewed
        put t s i = over_in (node_ops o) nodes f.node.deps (with_first f.update.k f.node) t s (op_of_act p) i

        by_deps : In p.mark.id.dot q.deps → In (op_of_act p) viewed
        by_deps d =
            let e : In g.node.dot f.node.deps = subst (λ l. In g.node.dot l) deps_is (subst (λ d. In d q.deps) p_dot d) in
            put g.node (inl ((dep_stands nodes set last well open_last f.node g.node f.stands g.stands e).0, e)) p_op

        by_place : (p.mark.id.dot ≡ q.mark.id.dot) × (p.mark.id.place < q.mark.id.place) → In (op_of_act p) viewed
        by_place s =
            let same : g.node ≡ f.node = one_node nodes set last well open_last g.node f.node g.stands f.stands (sym p_dot ∙ (s.0 ∙ dot_is)) in
            put (with_first f.update.k f.node) (inr refl) (ops_below o f.update.k f.node (op_of_act p) (subst (λ t. In (op_of_act p) (node_ops o t)) same p_op) (omega (arith, s.1, place_is)))

  -- ---- the facts

  -- an act that is over another adds or kills
  over_kinds : (w : List ℕ) (q p : Act) → over w q p ≡ true → (adds w q ≡ true) ⊎ (kills w q ≡ true)
  over_kinds w q p is =
      let name = (over-true w q p is).0 in
      ⊎_elim (λ add. inl (adds-from w q name add)) (λ add. inr (kills-from w q name add)) (cases_Bool (is_add q.op))

  -- an act sees what it is over
  over_seen : (w : List ℕ) (q p : Act) → In q acts → over w q p ≡ true → sees q p ≡ true
  over_seen w q p i is =
      let parts = over-true w q p is in
      let f = source q i in
      let l = (over_live q f w p.mark.id parts.0).0 parts.1 in
      sees-from q p (subst (λ id. IsSeenBy q id) l.is (view_seen q f l.op l.live.there))

  -- what an act sees has the lesser mark
  seen_below : (q p : Act) → In q acts → In p acts → sees q p ≡ true → less p q ≡ true
  seen_below q p i j s = go (source q i) (source p j) (sees-true q p s)
    where
      go : Source q → Source p → IsSeenBy q p.mark.id → less p q ≡ true
      go f g (inl d) =
          let e : In g.node.dot f.node.deps = subst (λ l. In g.node.dot l) (deps_is q f) (subst (λ d. In d q.deps) (dot_is p g) d) in
          let lesser = dep_below nodes set last well open_last f.node g.node f.stands g.stands e in
          below_by_rank p.mark q.mark (omega (arith, lesser, rank_is p g, rank_is q f))
      go f g (inr s) =
          let same : g.node ≡ f.node = one_node nodes set last well open_last g.node f.node g.stands f.stands (sym (dot_is p g) ∙ (s.0 ∙ dot_is q f)) in
          below_by_place p.mark q.mark (rank_is p g ∙ (ap (λ (t : Node). t.rank) same ∙ sym (rank_is q f))) s.0 s.1

  -- an act sees what is seen by an act that it sees
  seen_through : (r q p : Act) → In r acts → In q acts → In p acts → sees r q ≡ true → sees q p ≡ true → sees r p ≡ true
  seen_through r q p h i j s t = sees-from r p (go (source r h) (source q i) (sees-true r q s) (sees-true q p t))
    where
      d : Dot
      d = p.mark.id.dot

      go : Source r → Source q → IsSeenBy r q.mark.id → IsSeenBy q p.mark.id → IsSeenBy r p.mark.id
      go f g (inl e) (inl k) =
          let dep : In g.node.dot f.node.deps = subst (λ l. In g.node.dot l) (deps_is r f) (subst (λ d. In d r.deps) (dot_is q g) e) in
          inl (subst (λ l. In d l) (sym (deps_is r f)) (dep_through nodes set last well open_last f.node g.node f.stands g.stands dep d (subst (λ l. In d l) (deps_is q g) k)))
      go f g (inl e) (inr k) = inl (subst (λ d. In d r.deps) (sym k.0) e)
      go f g (inr e) (inl k) =
          let same : g.node ≡ f.node = one_node nodes set last well open_last g.node f.node g.stands f.stands (sym (dot_is q g) ∙ (e.0 ∙ dot_is r f)) in
          inl (subst (λ l. In d l) (deps_is q g ∙ (ap (λ (t : Node). t.deps) same ∙ sym (deps_is r f))) k)
      go f g (inr e) (inr k) = inr (k.0 ∙ e.0, omega (arith, e.1, k.1))

  -- an add that a killer sees has some act over it
  seen_add_covered : (w : List ℕ) (q p : Act) → In q acts → In p acts → kills w q ≡ true → adds w p ≡ true → sees q p ≡ true → (h : Act) × In h acts × (over w h p ≡ true)
  seen_add_covered w q p i j kill add s = by_test (cases_Bool (any (λ h. over w h p) acts))
    where
      f : Source q
      f = source q i

      is_live : any (λ h. over w h p) acts ≡ false → IsLiveId (viewed q f) w p.mark.id
      is_live none = record {
        op = op_of_act p;
        live = record {
          there = seen_in_view q f p (source p j) s;
          adds = (adds-true w p add).1;
          under = (adds-true w p add).0;
          free = λ other k name held. none_over acts w p none other (view_act q f other k) name held;
        };
        is = refl;
      }

      by_test : (any (λ h. over w h p) acts ≡ true) ⊎ (any (λ h. over w h p) acts ≡ false) → (h : Act) × In h acts × (over w h p ≡ true)
      by_test (inl some) = any_true (λ h. over w h p) acts some
      by_test (inr none) =
          let name = (kills-true w q kill).0 in
          (q, i, over-from w q p name ((over_live q f w p.mark.id name).1 (is_live none)))

  -- so tags tell the same as what sees what
  pub tagged : (w : List ℕ) → Tagged acts (record { adds = adds w; kills = kills w; over = over w; sees = sees; less = less })
  tagged w = record {
    irreflexive = λ p. not_below_itself mark_cmp_total p.mark;
    transitive = λ p q r. below_through mark_cmp_total p.mark q.mark r.mark;
    kinds = λ q p i j is. over_kinds w q p is;
    seen = λ q p i j is. over_seen w q p i is;
    grows = seen_below;
    through = seen_through;
    kept = seen_add_covered w;
  }
