-- The acts on an object in nodes, gathered one after another.
use Rattle.std.proofs.Common.{◌≡◌, ℕ, zero, suc, ◌+◌, ◌≤◌, ◌<◌, Bool, true, false, cond, List, [], ◌∷◌, ◌++◌, length, take, map, Some, refl, sym, ap, ◌∙◌, subst, arith, add-one}
use Rattle.std.specs.Prelude.{slice_get, flat_map, All}
use Rattle.std.proofs.lemmas.Option.{none-some, same_Some, slice_get_within}
use Rattle.std.proofs.lemmas.List.{append-nil, append_assoc, map-append, length-take-le}
use Rattle.std.proofs.lemmas.List.Elements.{filter-append}
use Rattle.std.proofs.lemmas.Grind.{flat_map-append}
use Rattle.list_core.proofs.Gets.{all_get}
use Rattle.list_core.proofs.Moments.{take_one_more}
use Rattle.ids_core.specs.declared.ids.Dot.{Dot}
use Rattle.ids_core.specs.declared.object.ObjectId.{ObjectId}
use Rattle.ids_core.specs.Ids.{same_object}
use Rattle.tx_core.specs.declared.tx.Update.{Update}
use Rattle.tx_core.specs.Operations.{mark}
use Rattle.dc_talk.specs.Records.{has}
use Rattle.tx_graph.specs.declared.acts.BareAct.{BareAct}
use Rattle.run_book.specs.declared.edits.Edit.{Edit}
use Rattle.run_book.specs.declared.bare_nodes.BareNode.{BareNode}
use Rattle.tx_graph.specs.Nodes.{Node}
use Rattle.tx_graph.specs.Values.{Act, acts_from, acts_of, nodes_in, change_of}
use Rattle.run_book.specs.Edits.{edit_of, edits_of}
use Rattle.tx_graph.specs.Acts.{bare_of}
use Rattle.run_book.specs.BareNodes.{bare_node}

-- ---- places of images

-- what stands at a place of the images of a list is the image of what stands there
record IsImage {X Y : Type 0} (f : X → Y) (xs : List X) (p : ℕ) (y : Y) : Type 0 where
  of : X
  there : slice_get xs p ≡ Some of
  is : y ≡ f of

-- each element of the images is one
get_image : {X Y : Type 0} (f : X → Y) (xs : List X) (p : ℕ) (y : Y) → slice_get (map f xs) p ≡ Some y → IsImage f xs p y
get_image f [] p y there = absurd (none-some y there)
get_image f (x ∷ xs) zero y there = record { of = x; there = refl; is = sym (same_Some (f x) y there) }
get_image f (x ∷ xs) (suc p) y there = let i = get_image f xs p y there in record { of = i.of; there = i.there; is = i.is }

-- ---- one node

-- the act of an update, where it is of the object
abbrev act_at : ObjectId → Node → ℕ → Update → List Act
act_at o t place u = cond (same_object u.object o) (record { mark = mark t.rank t.dot place; deps = t.deps; op = u.op } ∷ []) []

-- the acts with one update more
acts_from_more : (o : ObjectId) (t : Node) (place last : ℕ) (us : List Update) (u : Update) → place + length us ≡ last → acts_from o t place (us ++ u ∷ []) ≡ acts_from o t place us ++ act_at o t last u
acts_from_more o t place last [] u is =
    let same : place ≡ last = omega (arith, is) in
    ap (λ k. act_at o t k u) same
acts_from_more o t place last (v ∷ us) u is = go (same_object v.object o) (acts_from_more o t (place + 1) last us u (omega (arith, is)))
  where
    go : (b : Bool) → acts_from o t (place + 1) (us ++ u ∷ []) ≡ acts_from o t (place + 1) us ++ act_at o t last u → cond b (record { mark = mark t.rank t.dot place; deps = t.deps; op = v.op } ∷ acts_from o t (place + 1) (us ++ u ∷ [])) (acts_from o t (place + 1) (us ++ u ∷ [])) ≡ cond b (record { mark = mark t.rank t.dot place; deps = t.deps; op = v.op } ∷ acts_from o t (place + 1) us) (acts_from o t (place + 1) us) ++ act_at o t last u
    go true rest = ap (λ l. record { mark = mark t.rank t.dot place; deps = t.deps; op = v.op } ∷ l) rest
    go false rest = rest

-- the act of a change, where it is of the object
abbrev bare_at : ObjectId → BareNode → ℕ → Edit → List BareAct
bare_at o node place edit = cond (same_object edit.object o) (record { mark = mark node.rank node.dot place; deps = node.deps; change = edit.change } ∷ []) []

-- it is that of the update, without what it is over
bare_act_at : (o : ObjectId) (t : Node) (place : ℕ) (u : Update) → bare_at o (bare_node t) place (edit_of u) ≡ map bare_of (act_at o t place u)
bare_act_at o t place u = go (same_object u.object o)
  where
    go : (b : Bool) → cond b (record { mark = mark t.rank t.dot place; deps = t.deps; change = change_of u.op } ∷ []) [] ≡ map bare_of (cond b (record { mark = mark t.rank t.dot place; deps = t.deps; op = u.op } ∷ []) [])
    go true = refl
    go false = refl

-- the acts of a node with one change more
pub acts_more : (o : ObjectId) (t : Node) (node : BareNode) (i : ℕ) (edit : Edit) (first acts more : List BareAct) → node ≡ bare_node t → length t.updates ≤ 256 → slice_get (edits_of t.updates) i ≡ Some edit → (i < 256 → more ≡ acts ++ bare_at o node i edit) → acts ≡ first ++ map bare_of (acts_from o t 0 (take i t.updates)) → more ≡ first ++ map bare_of (acts_from o t 0 (take (i + 1) t.updates))
acts_more o t node i edit first acts more is few there pushed before =
    let u = get_image edit_of t.updates i edit there in
    let within = slice_get_within t.updates i u.of u.there in
    let place : 0 + length (take i t.updates) ≡ i = omega (arith, length-take-le i t.updates (omega (arith, within))) in
    let A = acts_from o t 0 (take i t.updates) in
    let longer : acts_from o t 0 (take (i + 1) t.updates) ≡ A ++ act_at o t i u.of = rw add-one (ap (acts_from o t 0) (take_one_more t.updates i u.of u.there) ∙ acts_from_more o t 0 i (take i t.updates) u.of place) in
    let last : bare_at o node i edit ≡ map bare_of (act_at o t i u.of) = ap (λ node. bare_at o node i edit) is ∙ (ap (bare_at o (bare_node t) i) u.is ∙ bare_act_at o t i u.of) in
    pushed (omega (arith, within, few))
    ∙ (ap (λ l. l ++ bare_at o node i edit) before
    ∙ (ap (λ l. (first ++ map bare_of A) ++ l) last
    ∙ (append_assoc first (map bare_of A) (map bare_of (act_at o t i u.of))
    ∙ ap (λ l. first ++ l) (sym (map-append bare_of A (act_at o t i u.of)) ∙ ap (map bare_of) (sym longer)))))

-- ---- many nodes

-- a node that is of the set gives its acts
pub acts_here : (o : ObjectId) (t : Node) (dots : List Dot) → has t.dot dots ≡ true → acts_of o t ≡ flat_map (acts_of o) (nodes_in (t ∷ []) dots)
acts_here o t dots is = sym (append-nil (acts_of o t)) ∙ ap (λ b. flat_map (acts_of o) (cond b (t ∷ []) [])) (sym is)

-- one that is not gives none
pub none_here : (o : ObjectId) (t : Node) (dots : List Dot) → has t.dot dots ≡ false → [] ≡ flat_map (acts_of o) (nodes_in (t ∷ []) dots)
none_here o t dots is = ap (λ b. flat_map (acts_of o) (cond b (t ∷ []) [])) (sym is)

-- the acts of the nodes of a set with one node more
pub nodes_more : (o : ObjectId) (whole : List Node) (dots : List Dot) (i : ℕ) (nodes : List BareNode) (node : BareNode) (acts more : List BareAct) → nodes ≡ map bare_node whole → All (λ t. length t.updates ≤ 256) whole → slice_get nodes i ≡ Some node → ((t : Node) → node ≡ bare_node t → length t.updates ≤ 256 → more ≡ acts ++ map bare_of (flat_map (acts_of o) (nodes_in (t ∷ []) dots))) → acts ≡ map bare_of (flat_map (acts_of o) (nodes_in (take i whole) dots)) → more ≡ map bare_of (flat_map (acts_of o) (nodes_in (take (i + 1) whole) dots))
nodes_more o whole dots i nodes node acts more are few there pushed before =
    let t = get_image bare_node whole i node (subst (λ l. slice_get l i ≡ Some node) are there) in
    let N = nodes_in (take i whole) dots in
    let L = nodes_in (t.of ∷ []) dots in
    let longer : nodes_in (take (i + 1) whole) dots ≡ N ++ L = rw add-one (ap (λ l. nodes_in l dots) (take_one_more whole i t.of t.there) ∙ filter-append (λ (t : Node). has t.dot dots) (take i whole) (t.of ∷ [])) in
    pushed t.of t.is (all_get (λ (t : Node). length t.updates ≤ 256) whole i t.of few t.there)
    ∙ (ap (λ l. l ++ map bare_of (flat_map (acts_of o) L)) before
    ∙ (sym (map-append bare_of (flat_map (acts_of o) N) (flat_map (acts_of o) L))
    ∙ ap (map bare_of) (sym (flat_map-append (acts_of o) N L) ∙ ap (flat_map (acts_of o)) (sym longer))))
