-- The operations of nodes with different dots have different identifiers, and are of their object's kind.
use Rattle.std.proofs.Common.{◌≡◌, ℕ, suc, inl, inr, List, [], ◌∷◌, Some, refl, sym, ap, ◌∙◌, subst, arith}
use Rattle.std.specs.Prelude.{flat_map, slice_get}
use Rattle.list_core.specs.Members.{In}
use Rattle.list_core.proofs.Gets.{In_get, get_In}
use Rattle.ids_core.specs.declared.ids.Dot.{Dot}
use Rattle.ids_core.specs.declared.ids.Mark.{Mark}
use Rattle.ids_core.specs.declared.object.ObjectId.{ObjectId}
use Rattle.ids_core.specs.Kinds.{Distinct}
use Rattle.ids_core.proofs.Distinct.{distinct_append}
use Rattle.tx_core.specs.declared.op.Op.{Op}
use Rattle.tx_core.specs.declared.tx.Update.{Update}
use Rattle.tx_core.specs.Ops.{sort_of_op}
use Rattle.tx_core.specs.Objects.{AreOf}
use Rattle.dc_talk.specs.Records.{has}
use Rattle.tx_graph.specs.Nodes.{Node, WellMade}
use Rattle.tx_graph.specs.Values.{nodes_in}
use Rattle.list_core.proofs.Members.{In_from_flat_map}
use Rattle.list_core.proofs.Apart.{apart_filter}
use Rattle.list_core.specs.Apart.{Apart}
use Rattle.tx_core.proofs.Operations.{distinct_from}
use Rattle.run_book.proofs.Causal.InView.{node_ops, ops_in, ops_over}
use Rattle.run_book.proofs.Causal.SetNodes.{StandsIn, in_node, over_from}
use Rattle.run_book.proofs.Causal.Acts.{op_of_act, node_act, is_act_of}

-- ---- different identifiers

-- the nodes of a well made graph have different dots
pub nodes_apart : (nodes : List Node) → WellMade nodes → Apart (λ (t : Node). t.dot) nodes
nodes_apart nodes made = apart_of nodes made.unique
  where
    apart_of : (ts : List Node) → ((p q : ℕ) (t u : Node) → slice_get ts p ≡ Some t → slice_get ts q ≡ Some u → t.dot ≡ u.dot → p ≡ q) → Apart (λ (t : Node). t.dot) ts
    apart_of [] one_place = tt
    apart_of (t ∷ ts) one_place = (
      λ u i same. let r = In_get ts u i in let e : 0 ≡ suc r.0 = one_place 0 (suc r.0) t u refl r.1 same in omega (arith, e),
      apart_of ts (λ p q t u a b same. let e : suc p ≡ suc q = one_place (suc p) (suc q) t u a b same in omega (arith, e)),
    )

-- the dot of an operation is that of its node
pub dot_of_op : (o : ObjectId) (t : Node) (op : Mark × Op) → In op (node_ops o t) → op.0.id.dot ≡ t.dot
dot_of_op o t op i =
    let a = node_act o t op i in
    ap (λ (op : Mark × Op). op.0.id.dot) (a.is ∙ ap op_of_act (is_act_of o t a.act a.there).is)

-- the operations of nodes with different dots have different identifiers
distinct_flat : (o : ObjectId) (ts : List Node) → Apart (λ (t : Node). t.dot) ts → Distinct (flat_map (node_ops o) ts)
distinct_flat o [] apart = tt
distinct_flat o (t ∷ ts) apart = distinct_append (node_ops o t) (flat_map (node_ops o) ts) (distinct_from o t.rank t.dot 0 t.updates) (distinct_flat o ts apart.1)
    (λ x y i j same.
    let r = In_from_flat_map (node_ops o) ts y j in
    apart.0 r.0 r.1 (sym (dot_of_op o t x i) ∙ (ap (λ id. id.dot) same ∙ dot_of_op o r.0 y r.2)))

-- the operations in the nodes of a set have different identifiers
pub distinct_in : (nodes : List Node) (set : List Dot) (o : ObjectId) → WellMade nodes → Distinct (ops_in nodes set o)
distinct_in nodes set o made = distinct_flat o (nodes_in nodes set) (apart_filter (λ (t : Node). t.dot) (λ t. has t.dot set) nodes (nodes_apart nodes made))

-- so have these with those of an open node that is not in the set
pub distinct_over : (nodes : List Node) (set : List Dot) (last : Node) (o : ObjectId) → WellMade nodes → (In last.dot set → ⊥) → Distinct (ops_over nodes set last o)
distinct_over nodes set last o made fresh = distinct_append (ops_in nodes set o) (node_ops o last) (distinct_in nodes set o made) (distinct_from o last.rank last.dot 0 last.updates)
    (λ x y i j same.
    let r = In_from_flat_map (node_ops o) (nodes_in nodes set) x i in
    let dot : r.0.dot ≡ last.dot = sym (dot_of_op o r.0 x r.2) ∙ (ap (λ id. id.dot) same ∙ dot_of_op o last y j) in
    fresh (subst (λ d. In d set) dot (in_node nodes set r.0 r.1).1))

-- ---- kinds

-- each operation is of its object's kind
pub record HasKinds (us : List Update) : Type 0 where
  pub each : (u : Update) → In u us → sort_of_op u.op ≡ u.object.sort

-- the operations of a node on an object are of the object's kind
kinds_node : (o : ObjectId) (t : Node) (op : Mark × Op) → HasKinds t.updates → In op (node_ops o t) → sort_of_op op.1 ≡ o.sort
kinds_node o t op kinds i =
    let a = node_act o t op i in
    let f = is_act_of o t a.act a.there in
    ap (λ (op : Mark × Op). sort_of_op op.1) (a.is ∙ ap op_of_act f.is) ∙ (kinds.each f.u (get_In t.updates f.k f.u f.there) ∙ ap (λ (o : ObjectId). o.sort) f.object)

-- so are those over a set and an open node
pub kinds_over : (nodes : List Node) (set : List Dot) (last : Node) (o : ObjectId) → ((t : Node) → In t nodes → HasKinds t.updates) → HasKinds last.updates → AreOf o.sort (ops_over nodes set last o)
kinds_over nodes set last o kinds last_kinds = record { each = λ op i. let r = over_from (node_ops o) nodes set last op i in kinds_node o r.0 op (of r.0 r.1) r.2 }
  where
    of : (t : Node) → StandsIn nodes set last t → HasKinds t.updates
    of t (inl i) = kinds t i.0
    of t (inr same) = subst (λ (t : Node). HasKinds t.updates) (sym same) last_kinds
