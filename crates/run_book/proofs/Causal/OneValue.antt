-- An object has one value over a set of dots and an open node.
use Rattle.std.proofs.Common.{◌≡◌, ℕ, List, map, Option, Some, None, refl, sym, ap, ◌∙◌, subst}
use Rattle.std.specs.Prelude.{slice_get}
use Rattle.std.specs.List.Sorted.{IsStrictlySortedBy}
use Rattle.std.proofs.lemmas.Option.{same_Some}
use Rattle.std.proofs.lemmas.List.{map-id}
use Rattle.list_core.specs.Members.{In}
use Rattle.ids_core.specs.declared.ids.Dot.{Dot}
use Rattle.ids_core.specs.declared.ids.Mark.{Mark}
use Rattle.ids_core.specs.declared.object.ObjectId.{ObjectId}
use Rattle.ids_core.specs.declared.object.Sort.{Sort}
use Rattle.ids_core.specs.declared.object.Sort.TheVariants as sort
use Rattle.ids_core.specs.Orders.{name_cmp, name_cmp_total}
use Rattle.ids_core.proofs.Orders.{one_mark}
use Rattle.ids_core.proofs.Ascending.{one_ascending}
use Rattle.dc_talk.specs.declared.calls.Change.TheVariants.{Write}
use Rattle.tx_core.specs.declared.state.Value.{Value}
use Rattle.tx_core.specs.declared.state.Value.TheVariants.{Number, Word, Words, Pairs}
use Rattle.tx_graph.specs.Nodes.{Node, WellMade}
use Rattle.tx_graph.specs.Values.{Act, IsRegisterOver, IsSetOver, IsMapOver, IsValueBy, change_of, acts_of, acts_over, nodes_in}
use Rattle.tx_graph.specs.Acts.{HasUniqueMarks}
use Rattle.list_core.proofs.Apart.{apart_one}
use Rattle.run_book.proofs.Causal.SetNodes.{in_node}
use Rattle.run_book.proofs.Causal.Acts.{act_at, IsActOf, IsActIn, act_in, acts_with, is_act_of}
use Rattle.run_book.proofs.Causal.Operations.{nodes_apart}
use Rattle.run_book.proofs.Causal.OpenNodes.{WellIssued, IsOpenOver, one_node}
use Rattle.list_core.proofs.Members.{In_from_flat_map}
use Rattle.tx_core.specs.Operations.{mark}

-- ---- values by kind

-- equal writes are of one word
written : (v w : List ℕ) → Write v ≡ Write w → v ≡ w
written v w same = cc

-- a register has one word over acts of unique marks
one_word : (acts : List Act) → HasUniqueMarks acts → (v w : Option (List ℕ)) → IsRegisterOver acts v → IsRegisterOver acts w → v ≡ w
one_word acts unique None None a b = refl
one_word acts unique None (Some w) a b = absurd (a b.act w b.there b.writes)
one_word acts unique (Some v) None a b = absurd (b a.act v a.there a.writes)
one_word acts unique (Some v) (Some w) a b =
    let mark = one_mark a.act.mark b.act.mark (b.above a.act v a.there a.writes) (a.above b.act w b.there b.writes) in
    let act = unique.one_act a.act b.act a.there b.there mark in
    ap Some (written v w (sym a.writes ∙ (ap (λ (act : Act). change_of act.op) act ∙ b.writes)))

-- a set has one list of words
one_words : (acts : List Act) (v w : List (List ℕ)) → IsSetOver acts v → IsSetOver acts w → v ≡ w
one_words acts v w a b = one_ascending name_cmp_total (λ word. word) v w (ascends v a.ascending) (ascends w b.ascending) (λ z i. (b.exact z).1 ((a.exact z).0 i)) (λ z i. (a.exact z).1 ((b.exact z).0 i))
  where
    ascends : (words : List (List ℕ)) → IsStrictlySortedBy name_cmp words → IsStrictlySortedBy name_cmp (map (λ word. word) words)
    ascends words is = subst (λ l. IsStrictlySortedBy name_cmp l) (sym (map-id words)) is

-- a map has one list of pairs
one_pairs : (acts : List Act) (v w : List (List ℕ × List ℕ)) → IsMapOver acts v → IsMapOver acts w → v ≡ w
one_pairs acts v w a b = one_ascending name_cmp_total (λ pair. pair.0) v w a.ascending b.ascending (λ z i. (b.exact z.0 z.1).1 ((a.exact z.0 z.1).0 i)) (λ z i. (a.exact z.0 z.1).1 ((b.exact z.0 z.1).0 i))

-- an object of a kind, with acts of unique marks, has one value
pub one_value : (s : Sort) (acts : List Act) (v w : Value) → HasUniqueMarks acts → IsValueBy s acts v → IsValueBy s acts w → v ≡ w
one_value sort.Counter acts (Number v) (Number w) unique a b = ap Number (a ∙ sym b)
one_value sort.Register acts (Word v) (Word w) unique a b = ap Word (one_word acts unique v w a b)
one_value sort.Set acts (Words v) (Words w) unique a b = ap Words (one_words acts v w a b)
one_value sort.Map acts (Pairs v) (Pairs w) unique a b = ap Pairs (one_pairs acts v w a b)
one_value sort.Counter acts (Number v) _ unique a b = absurd b
one_value sort.Register acts (Word v) _ unique a b = absurd b
one_value sort.Set acts (Words v) _ unique a b = absurd b
one_value sort.Map acts (Pairs v) _ unique a b = absurd b
one_value _ acts _ _ unique a b = absurd a

-- ---- the marks of acts

-- two acts with one mark, of nodes that are one where their dots are, are one act
one_act : (o : ObjectId) (t u : Node) (p q : Act) → (t.dot ≡ u.dot → t ≡ u) → IsActOf o t p → IsActOf o u q → p.mark ≡ q.mark → p ≡ q
one_act o t u p q one_node f g same =
    let marks : mark t.rank t.dot f.k ≡ mark u.rank u.dot g.k = ap (λ (a : Act). a.mark) (sym f.is) ∙ (same ∙ ap (λ (a : Act). a.mark) g.is) in
    let node : t ≡ u = one_node (ap (λ (m : Mark). m.id.dot) marks) in
    let place : f.k ≡ g.k = ap (λ (m : Mark). m.id.place) marks in
    let update : f.u ≡ g.u = same_Some f.u g.u (sym f.there ∙ (ap (λ (t : Node). slice_get t.updates f.k) node ∙ (ap (λ k. slice_get u.updates k) place ∙ g.there))) in
    f.is ∙ (ap (λ t. act_at t f.k f.u) node ∙ (ap (λ k. act_at u k f.u) place ∙ (ap (λ v. act_at u g.k v) update ∙ sym g.is)))

-- the acts over a set and a node that is open over it have unique marks
pub unique_marks : (nodes : List Node) (set : List Dot) (last : Node) → WellIssued nodes → IsOpenOver nodes set last → (o : ObjectId) → HasUniqueMarks (acts_with nodes set last o)
unique_marks nodes set last well open_last o = record { one_act = λ p q i j. go p q (act_in nodes set last o p i) (act_in nodes set last o q j) }
  where
    go : (p q : Act) → IsActIn nodes set last o p → IsActIn nodes set last o q → p.mark ≡ q.mark → p ≡ q
    go p q f g = one_act o f.node g.node p q (one_node nodes set last well open_last f.node g.node f.stands g.stands) f.update g.update

-- so have those over any set of dots
pub unique_marks_in : (nodes : List Node) (set : List Dot) → WellMade nodes → (o : ObjectId) → HasUniqueMarks (acts_over nodes set o)
unique_marks_in nodes set made o = record { one_act = λ p q i j. go p q (In_from_flat_map (acts_of o) (nodes_in nodes set) p i) (In_from_flat_map (acts_of o) (nodes_in nodes set) q j) }
  where
    go : (p q : Act) → (t : Node) × In t (nodes_in nodes set) × In p (acts_of o t) → (t : Node) × In t (nodes_in nodes set) × In q (acts_of o t) → p.mark ≡ q.mark → p ≡ q
    go p q f g = one_act o f.0 g.0 p q (apart_one (λ (t : Node). t.dot) nodes f.0 g.0 (nodes_apart nodes made) (in_node nodes set f.0 f.1).0 (in_node nodes set g.0 g.1).0) (is_act_of o f.0 p f.2) (is_act_of o g.0 q g.2)
