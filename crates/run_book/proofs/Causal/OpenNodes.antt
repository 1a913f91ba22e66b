-- A node that is open over a closed set of a graph, as the open transaction of a session over its basis.
use Rattle.std.proofs.Common.{◌≡◌, ◌<◌, inl, inr, List, sym, ap, ◌∙◌, subst, arith}
use Rattle.list_core.specs.Members.{In}
use Rattle.ids_core.specs.declared.ids.Dot.{Dot}
use Rattle.tx_graph.specs.Nodes.{Node, Closed, WellMade}
use Rattle.list_core.proofs.Apart.{apart_one}
use Rattle.run_book.proofs.Causal.InView.{IsIssued}
use Rattle.run_book.proofs.Causal.SetNodes.{StandsIn}
use Rattle.run_book.proofs.Causal.Operations.{nodes_apart, HasKinds}

-- a well made graph whose updates are of their objects' kinds, and are over what was live in the views of
-- their issuers
pub record WellIssued (nodes : List Node) : Type 0 where
  pub made : WellMade nodes
  pub issued : (t : Node) → In t nodes → IsIssued nodes t
  pub kinds : (t : Node) → In t nodes → HasKinds t.updates

-- a node is open over a closed set: it depends on all that is in the set and is not in it, its rank is above
-- those in the set, and its updates are of their objects' kinds and over what was live in their issuer's views
pub record IsOpenOver (nodes : List Node) (set : List Dot) (last : Node) : Type 0 where
  pub closed : Closed nodes set
  pub deps : last.deps ≡ set
  pub fresh : In last.dot set → ⊥
  pub above : (t : Node) → In t nodes → In t.dot set → t.rank < last.rank
  pub issued : IsIssued nodes last
  pub kinds : HasKinds last.updates

module _ (nodes : List Node) (set : List Dot) (last : Node) (well : WellIssued nodes) (open_last : IsOpenOver nodes set last) where
  -- a node of the set, or the open node
  abbrev Stands : Node → Type 0
  Stands t = StandsIn nodes set last t

  -- two of them with one dot are one
  pub one_node : (t u : Node) → Stands t → Stands u → t.dot ≡ u.dot → t ≡ u
  one_node t u (inl i) (inl j) same = apart_one (λ (t : Node). t.dot) nodes t u (nodes_apart nodes well.made) i.0 j.0 same
  one_node t u (inl i) (inr e) same = absurd (open_last.fresh (subst (λ d. In d set) (same ∙ ap (λ (t : Node). t.dot) e) i.1))
  one_node t u (inr e) (inl j) same = absurd (open_last.fresh (subst (λ d. In d set) (sym same ∙ ap (λ (t : Node). t.dot) e) j.1))
  one_node t u (inr e) (inr f) same = e ∙ sym f

  -- what one of them depends on is in the set
  pub deps_in_set : (t : Node) → Stands t → (d : Dot) → In d t.deps → In d set
  deps_in_set t (inl i) d j = (open_last.closed.dependencies t i.0 i.1).each d j
  deps_in_set t (inr e) d j = subst (λ l. In d l) (ap (λ (t : Node). t.deps) e ∙ open_last.deps) j

  -- one of them that another depends on is a node of the set
  pub dep_stands : (t u : Node) → Stands t → Stands u → In u.dot t.deps → In u nodes × In u.dot set
  dep_stands t u s (inl i) d = i
  dep_stands t u s (inr e) d = absurd (open_last.fresh (subst (λ d. In d set) (ap (λ (t : Node). t.dot) e) (deps_in_set t s u.dot d)))

  -- it has a lesser rank
  pub dep_below : (t u : Node) → Stands t → Stands u → In u.dot t.deps → u.rank < t.rank
  dep_below t u (inl i) s d = well.made.ranks t u i.0 (dep_stands t u (inl i) s d).0 d
  dep_below t u (inr e) s d =
      let b = dep_stands t u (inr e) s d in
      let less = open_last.above u b.0 b.1 in
      let same : t.rank ≡ last.rank = ap (λ (t : Node). t.rank) e in
      omega (arith, less, same)

  -- and what it depends on, the other depends on
  pub dep_through : (t u : Node) → Stands t → Stands u → In u.dot t.deps → (d : Dot) → In d u.deps → In d t.deps
  dep_through t u (inl i) s j d k = ((well.made.closed t i.0).dependencies u (dep_stands t u (inl i) s j).0 j).each d k
  dep_through t u (inr e) s j d k = subst (λ l. In d l) (sym (ap (λ (t : Node). t.deps) e ∙ open_last.deps)) (deps_in_set u s d k)

  -- the updates of each are over what was live in their issuer's views
  pub issued_at : (t : Node) → Stands t → IsIssued nodes t
  issued_at t (inl i) = well.issued t i.0
  issued_at t (inr e) = subst (λ t. IsIssued nodes t) (sym e) open_last.issued
