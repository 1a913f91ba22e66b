-- Acts are operations with the dependency set of their transaction, and each is that of an update at a place of a node.
use Rattle.std.proofs.Common.{◌≡◌, ℕ, zero, suc, ◌+◌, ◌<◌, inl, inr, Bool, true, false, cond, List, [], ◌∷◌, ◌++◌, map, take, Some, refl, sym, ap, ◌∙◌, subst, arith}
use Rattle.std.specs.Prelude.{flat_map, slice_get}
use Rattle.std.proofs.lemmas.List.{map-append}
use Rattle.std.proofs.lemmas.Option.{none-some, same_Some, slice_get_within}
use Rattle.list_core.specs.Members.{In}
use Rattle.list_core.proofs.Members.{In_map, In_from_map}
use Rattle.list_core.proofs.Gets.{get_in_take}
use Rattle.ids_core.specs.declared.ids.Dot.{Dot}
use Rattle.ids_core.specs.declared.ids.Mark.{Mark}
use Rattle.ids_core.specs.declared.object.ObjectId.{ObjectId}
use Rattle.ids_core.specs.Ids.{same_object}
use Rattle.ids_core.specs.Same.{same_object-true, same_object-same}
use Rattle.tx_core.specs.declared.op.Op.{Op}
use Rattle.tx_core.specs.declared.tx.Update.{Update}
use Rattle.tx_core.specs.Operations.{mark, ops_from}
use Rattle.tx_graph.specs.Nodes.{Node}
use Rattle.tx_graph.specs.Values.{Act, acts_from, acts_of, nodes_in, acts_over}
use Rattle.run_book.proofs.Causal.InView.{node_ops, ops_in, ops_over, with_first}
use Rattle.run_book.proofs.Causal.SetNodes.{StandsIn, over_from}

-- ---- acts as operations

-- an act as a state takes it
abbrev pub op_of_act : Act → Mark × Op
op_of_act act = (act.mark, act.op)

-- the acts among updates are their operations
acts_are : (o : ObjectId) (t : Node) (place : ℕ) (us : List Update) → map op_of_act (acts_from o t place us) ≡ ops_from o t.rank t.dot place us
acts_are o t place [] = refl
acts_are o t place (u ∷ us) = go (same_object u.object o) (acts_are o t (place + 1) us)
  where
    op : Mark × Op
    op = (mark t.rank t.dot place, u.op)

    go : (b : Bool) → map op_of_act (acts_from o t (place + 1) us) ≡ ops_from o t.rank t.dot (place + 1) us → map op_of_act (cond b (record { mark = mark t.rank t.dot place; deps = t.deps; op = u.op } ∷ acts_from o t (place + 1) us) (acts_from o t (place + 1) us)) ≡ cond b (op ∷ ops_from o t.rank t.dot (place + 1) us) (ops_from o t.rank t.dot (place + 1) us)
    go true rest = ap (λ l. op ∷ l) rest
    go false rest = rest

-- the acts in a node are its operations
pub node_acts_are : (o : ObjectId) (t : Node) → map op_of_act (acts_of o t) ≡ node_ops o t
node_acts_are o t = acts_are o t 0 t.updates

-- the acts in nodes are the operations of these
flat_acts_are : (o : ObjectId) (ts : List Node) → map op_of_act (flat_map (acts_of o) ts) ≡ flat_map (node_ops o) ts
flat_acts_are o [] = refl
flat_acts_are o (t ∷ ts) =
    map-append op_of_act (acts_of o t) (flat_map (acts_of o) ts)
    ∙ (ap (λ l. l ++ map op_of_act (flat_map (acts_of o) ts)) (node_acts_are o t)
    ∙ ap (λ l. node_ops o t ++ l) (flat_acts_are o ts))

-- the acts over a set of dots, and those of an open node behind them
abbrev pub acts_with : List Node → List Dot → Node → ObjectId → List Act
acts_with nodes set last o = acts_over nodes set o ++ acts_of o last

-- the acts over a set and an open node are the operations over them
pub acts_over_are : (nodes : List Node) (set : List Dot) (last : Node) (o : ObjectId) → map op_of_act (acts_with nodes set last o) ≡ ops_over nodes set last o
acts_over_are nodes set last o =
    map-append op_of_act (flat_map (acts_of o) (nodes_in nodes set)) (acts_of o last)
    ∙ (ap (λ l. l ++ map op_of_act (acts_of o last)) (flat_acts_are o (nodes_in nodes set))
    ∙ ap (λ l. ops_in nodes set o ++ l) (node_acts_are o last))

-- the operation is that of one of the acts
pub record HasAct (acts : List Act) (op : Mark × Op) : Type 0 where
  pub act : Act
  pub there : In act acts
  pub is : op ≡ op_of_act act

-- each operation of acts is that of one of them
pub act_behind : (acts : List Act) (op : Mark × Op) → In op (map op_of_act acts) → HasAct acts op
act_behind acts op i = let m = In_from_map op_of_act acts op i in record { act = m.0; there = m.1; is = m.2 }

-- each operation of a node is that of one of its acts
pub node_act : (o : ObjectId) (t : Node) (op : Mark × Op) → In op (node_ops o t) → HasAct (acts_of o t) op
node_act o t op i = act_behind (acts_of o t) op (subst (λ l. In op l) (sym (node_acts_are o t)) i)

-- the operation of an act of a node is one of its operations
pub node_op : (o : ObjectId) (t : Node) (act : Act) → In act (acts_of o t) → In (op_of_act act) (node_ops o t)
node_op o t act i = subst (λ l. In (op_of_act act) l) (node_acts_are o t) (In_map op_of_act (acts_of o t) act i)

-- ---- where an act stands

-- the act of an update at place k of a node
abbrev pub act_at : Node → ℕ → Update → Act
act_at t k u = record { mark = mark t.rank t.dot k; deps = t.deps; op = u.op }

-- the act is that of the object's update at a place among these, where the first has a place given
record StandsAt (o : ObjectId) (t : Node) (place : ℕ) (us : List Update) (act : Act) : Type 0 where
  k : ℕ
  u : Update
  there : slice_get us k ≡ Some u
  object : u.object ≡ o
  is : act ≡ act_at t (place + k) u

-- each act among updates stands somewhere there
stands_at : (o : ObjectId) (t : Node) (place : ℕ) (us : List Update) (act : Act) → In act (acts_from o t place us) → StandsAt o t place us act
stands_at o t place [] act i = absurd i
stands_at o t place (u ∷ us) act i = go (stands_at o t (place + 1) us act) (same_object u.object o) refl i
  where
    later : StandsAt o t (place + 1) us act → StandsAt o t place (u ∷ us) act
    later r = record { k = suc r.k; u = r.u; there = r.there; object = r.object; is = r.is ∙ ap (λ n. act_at t n r.u) (let e : place + 1 + r.k ≡ place + suc r.k = omega arith in e) }

    go : (In act (acts_from o t (place + 1) us) → StandsAt o t (place + 1) us act) → (b : Bool) → same_object u.object o ≡ b → In act (cond b (act_at t place u ∷ acts_from o t (place + 1) us) (acts_from o t (place + 1) us)) → StandsAt o t place (u ∷ us) act
    go rest true same (inl e) = record { k = 0; u = u; there = refl; object = same_object-true u.object o same; is = e ∙ ap (λ n. act_at t n u) (let e : place ≡ place + 0 = omega arith in e) }
    go rest true same (inr j) = later (rest j)
    go rest false same j = later (rest j)

-- the act of the object's update at a place is among those of the updates
act_there : (o : ObjectId) (t : Node) (place : ℕ) (us : List Update) (k : ℕ) (u : Update) → slice_get us k ≡ Some u → u.object ≡ o → In (act_at t (place + k) u) (acts_from o t place us)
act_there o t place [] k u there object = absurd (none-some u there)
act_there o t place (v ∷ us) zero u there object = subst (λ b. In (act_at t (place + 0) u) (cond b (act_at t place v ∷ acts_from o t (place + 1) us) (acts_from o t (place + 1) us))) (sym same) (inl (ap (λ n. act_at t n u) first ∙ ap (act_at t place) (sym here)))
  where
    here : v ≡ u
    here = same_Some v u there

    same : same_object v.object o ≡ true
    same = same_object-same v.object o (ap (λ (u : Update). u.object) here ∙ object)

    first : place + 0 ≡ place
    first = omega arith
act_there o t place (v ∷ us) (suc k) u there object = go (same_object v.object o) (subst (λ n. In (act_at t n u) (acts_from o t (place + 1) us)) later (act_there o t (place + 1) us k u there object))
  where
    later : place + 1 + k ≡ place + suc k
    later = omega arith

    go : (b : Bool) → In (act_at t (place + suc k) u) (acts_from o t (place + 1) us) → In (act_at t (place + suc k) u) (cond b (act_at t place v ∷ acts_from o t (place + 1) us) (acts_from o t (place + 1) us))
    go true i = inr i
    go false i = i

-- the act is that of an update of the object in the node
pub record IsActOf (o : ObjectId) (t : Node) (act : Act) : Type 0 where
  pub k : ℕ
  pub u : Update
  pub there : slice_get t.updates k ≡ Some u
  pub object : u.object ≡ o
  pub is : act ≡ act_at t k u

-- a number counted from 0 on
from_zero : (n : ℕ) → 0 + n ≡ n
from_zero n = omega arith

-- each act of a node is that of an update of it
pub is_act_of : (o : ObjectId) (t : Node) (act : Act) → In act (acts_of o t) → IsActOf o t act
is_act_of o t act i = let r = stands_at o t 0 t.updates act i in record { k = r.k; u = r.u; there = r.there; object = r.object; is = r.is ∙ ap (λ n. act_at t n r.u) (from_zero r.k) }

-- the act of an update of a node is one of its acts
pub act_of_node : (o : ObjectId) (t : Node) (k : ℕ) (u : Update) → slice_get t.updates k ≡ Some u → u.object ≡ o → In (act_at t k u) (acts_of o t)
act_of_node o t k u there object = subst (λ n. In (act_at t n u) (acts_of o t)) (from_zero k) (act_there o t 0 t.updates k u there object)

-- the act is that of an update of the object, in a node of the set or in the open node
pub record IsActIn (nodes : List Node) (set : List Dot) (last : Node) (o : ObjectId) (act : Act) : Type 0 where
  pub node : Node
  pub stands : StandsIn nodes set last node
  pub own : In act (acts_of o node)
  pub update : IsActOf o node act

-- each act over a set and an open node is one
pub act_in : (nodes : List Node) (set : List Dot) (last : Node) (o : ObjectId) (act : Act) → In act (acts_with nodes set last o) → IsActIn nodes set last o act
act_in nodes set last o act i = let r = over_from (acts_of o) nodes set last act i in record { node = r.0; stands = r.1; own = r.2; update = is_act_of o r.0 act r.2 }

-- ---- the first updates of a node

-- the place of an operation among the first updates is below their number
pub first_below : (o : ObjectId) (n : ℕ) (t : Node) (op : Mark × Op) → In op (node_ops o (with_first n t)) → op.0.id.place < n
first_below o n t op i =
    let a = node_act o (with_first n t) op i in
    let f = is_act_of o (with_first n t) a.act a.there in
    let place : op.0.id.place ≡ f.k = ap (λ (op : Mark × Op). op.0.id.place) (a.is ∙ ap op_of_act f.is) in
    omega (arith, place, slice_get_within (take n t.updates) f.k f.u f.there, Rattle.std.proofs.lemmas.List.length-take n t.updates)

-- the operations of the first updates of a node are operations of the node
pub first_ops : (o : ObjectId) (n : ℕ) (t : Node) (op : Mark × Op) → In op (node_ops o (with_first n t)) → In op (node_ops o t)
first_ops o n t op i =
    let a = node_act o (with_first n t) op i in
    let f = is_act_of o (with_first n t) a.act a.there in
    let act_in : In a.act (acts_of o t) = subst (λ act. In act (acts_of o t)) (sym f.is) (act_of_node o t f.k f.u (get_in_take t.updates n f.k f.u f.there) f.object) in
    subst (λ op. In op (node_ops o t)) (sym a.is) (node_op o t a.act act_in)

-- an operation of a node whose place is below n is one of its first n updates
pub ops_below : (o : ObjectId) (n : ℕ) (t : Node) (op : Mark × Op) → In op (node_ops o t) → op.0.id.place < n → In op (node_ops o (with_first n t))
ops_below o n t op i below =
    let a = node_act o t op i in
    let f = is_act_of o t a.act a.there in
    let place : op.0.id.place ≡ f.k = ap (λ (op : Mark × Op). op.0.id.place) (a.is ∙ ap op_of_act f.is) in
    let there : slice_get (take n t.updates) f.k ≡ Some f.u = get_take n t.updates f.k f.u (omega (arith, below, place)) f.there in
    let act_in : In a.act (acts_of o (with_first n t)) = subst (λ act. In act (acts_of o (with_first n t))) (sym f.is) (act_of_node o (with_first n t) f.k f.u there f.object) in
    subst (λ op. In op (node_ops o (with_first n t))) (sym a.is) (node_op o (with_first n t) a.act act_in)
  where
    get_take : {X : Type 0} (n : ℕ) (xs : List X) (p : ℕ) (x : X) → p < n → slice_get xs p ≡ Some x → slice_get (take n xs) p ≡ Some x
    get_take zero xs p x below there = absurd (omega (arith, below))
    get_take (suc n) [] p x below there = absurd (none-some x there)
    get_take (suc n) (y ∷ xs) zero x below there = there
    get_take (suc n) (y ∷ xs) (suc p) x below there = get_take n xs p x (omega (arith, below)) there
