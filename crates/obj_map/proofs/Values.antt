-- The pairs of a map, from its operations.
use Rattle.std.proofs.Common.{◌≡◌, ℕ, ◌≤◌, ◌++◌, drop, length, subst, true, inl, inr, ◌↔◌, List, [], ◌∷◌, Option, Some, None, is_some, refl, sym, ap, ◌∙◌}
use Rattle.std.specs.Prelude.{option_map, map}
use Rattle.std.specs.List.{cons_option, AllByRecursion}
use Rattle.std.specs.List.Sorted.{IsStrictlySortedBy}
use Rattle.std.specs.Ordering.{is_lt}
use Rattle.std.specs.declared.cmp.Ordering.TheVariants.{Less}
use Rattle.std.proofs.lemmas.Bool.{and_parts, false≢true}
use Rattle.std.proofs.lemmas.List.{append-nil, drop_all}
use Rattle.std.proofs.lemmas.Option.{none-some, same_Some}
use Rattle.list_core.specs.Members.{In}
use Rattle.ids_core.specs.Kinds.{Distinct}
use Rattle.ids_core.specs.declared.ids.OpId.{OpId}
use Rattle.ids_core.specs.declared.ids.Mark.{Mark}
use Rattle.ids_core.specs.Orders.{mark_cmp, name_cmp, id_cmp_same}
use Rattle.tally_core.specs.Places.{same_name, same_id}
use Rattle.tally_core.specs.Live.{live_names, kept_at}
use Rattle.tally_core.specs.Changes.{adds, IsLiveIn, LiveByOps}
use Rattle.tally_core.proofs.Alive.{live_by_ops}
use Rattle.tally_core.proofs.Listed.{kept_exact, names_ascend}
use Rattle.tally_core.proofs.Sparse.{is_same}
use Rattle.obj_map.specs.declared.put.Put.{Put}
use Rattle.obj_map.specs.declared.map.MapOp.{MapOp}
use Rattle.obj_map.specs.Puts.{mark_of, IsWordOf}
use Rattle.obj_map.specs.Maps.{Map, does, pairs, pairs_of, word_at, IsStateOf, IsGreatestPut}
use Rattle.obj_map.proofs.Greatest.{greatest_is, is_greatest}

-- the pairs of keys are those that have a word
from_pairs : (s : Map) (keys : List (List ℕ)) (key word : List ℕ) → In (key, word) (pairs_of s keys) → In key keys × (word_at s key ≡ Some word)
from_pairs s [] key word i = absurd i
from_pairs s (k ∷ keys) key word i = at (word_at s k) refl i (λ j. from_pairs s keys key word j)
  where
    at : (o : Option (List ℕ)) → word_at s k ≡ o → In (key, word) (cons_option (option_map (λ word. (k, word)) o) (pairs_of s keys)) → (In (key, word) (pairs_of s keys) → In key keys × (word_at s key ≡ Some word)) → In key (k ∷ keys) × (word_at s key ≡ Some word)
    at None e j rest = let r = rest j in (inr r.0, r.1)
    at (Some w) e (inl t) rest = (inl (ap (λ p. p.0) t), ap (λ p. word_at s p.0) t ∙ (e ∙ ap (λ p. Some p.1) (sym t)))
    at (Some w) e (inr j) rest = let r = rest j in (inr r.0, r.1)

in_pairs : (s : Map) (keys : List (List ℕ)) (key word : List ℕ) → In key keys → word_at s key ≡ Some word → In (key, word) (pairs_of s keys)
in_pairs s [] key word i e = absurd i
in_pairs s (k ∷ keys) key word i e = at (word_at s k) refl i (λ j. in_pairs s keys key word j e)
  where
    at : (o : Option (List ℕ)) → word_at s k ≡ o → In key (k ∷ keys) → (In key keys → In (key, word) (pairs_of s keys)) → In (key, word) (cons_option (option_map (λ word. (k, word)) o) (pairs_of s keys))
    at None n (inl t) rest = absurd (none-some word (sym n ∙ (ap (word_at s) (sym t) ∙ e)))
    at None n (inr j) rest = rest j
    at (Some w) n (inl t) rest =
        let value : w ≡ word = same_Some w word (sym n ∙ (ap (word_at s) (sym t) ∙ e)) in
        inl (λ i. (t i, sym value i))
    at (Some w) n (inr j) rest = inr (rest j)

-- what holds of each key holds of those of the pairs
all_pairs : (Q : List ℕ → Type 0) (s : Map) (keys : List (List ℕ)) → AllByRecursion Q keys → AllByRecursion Q (map (λ p. p.0) (pairs_of s keys))
all_pairs Q s [] h = tt
all_pairs Q s (k ∷ keys) h = at (word_at s k) (all_pairs Q s keys h.1)
  where
    at : (o : Option (List ℕ)) → AllByRecursion Q (map (λ p. p.0) (pairs_of s keys)) → AllByRecursion Q (map (λ p. p.0) (cons_option (option_map (λ word. (k, word)) o) (pairs_of s keys)))
    at None ih = ih
    at (Some w) ih = (h.0, ih)

sorted_pairs : (s : Map) (keys : List (List ℕ)) → IsStrictlySortedBy name_cmp keys → IsStrictlySortedBy name_cmp (map (λ p. p.0) (pairs_of s keys))
unfolding IsStrictlySortedBy
sorted_pairs s [] h = tt
sorted_pairs s (k ∷ keys) h = at (word_at s k) (sorted_pairs s keys h.1)
  where
    at : (o : Option (List ℕ)) → IsStrictlySortedBy name_cmp (map (λ p. p.0) (pairs_of s keys)) → IsStrictlySortedBy name_cmp (map (λ p. p.0) (cons_option (option_map (λ word. (k, word)) o) (pairs_of s keys)))
    at None ih = ih
    at (Some w) ih = (all_pairs (λ y. name_cmp k y ≡ Less) s keys h.0, ih)

pub pairs_ascend : (s : Map) → IsStrictlySortedBy name_cmp (map (λ p. p.0) (pairs s))
pairs_ascend s = sorted_pairs s (live_names s) (names_ascend s)

-- all keys are done
pub pairs_done : (s : Map) (keys : List (List ℕ)) (items : List (List ℕ × List ℕ)) (i : ℕ) → length keys ≤ i → items ++ pairs_of s (drop i keys) ≡ pairs s → IsStrictlySortedBy name_cmp (map (λ p. p.0) items)
pairs_done s keys items i end is =
    let none : drop i keys ≡ [] = drop_all i keys end in
    let same : items ≡ pairs s = sym (append-nil items) ∙ (sym (ap (λ keys. items ++ pairs_of s keys) none) ∙ is) in
    subst (λ l. IsStrictlySortedBy name_cmp (map (λ p. p.0) l)) (sym same) (pairs_ascend s)

-- the put of an operation
word_of : (rank : ℕ) (o : Option (List ℕ)) (p : Put) → option_map (λ word. record { rank = rank; word = word }) o ≡ Some p → (o ≡ Some p.word) × (rank ≡ p.rank)
word_of rank None p e = absurd (none-some p e)
word_of rank (Some w) p e = let same = same_Some _ p e in (ap (λ p. Some p.word) same, ap (λ p. p.rank) same)

module _ (ops : List (Mark × MapOp)) (s : Map) (apart : Distinct ops) (is : IsStateOf ops s) (key : List ℕ) where
  by : LiveByOps does ops s
  by = live_by_ops does ops s apart is

  own : (op : Mark × MapOp) (id : OpId) → adds does key id op ≡ true → op.0 ≡ record { rank = op.0.rank; id = id }
  own op id h =
      let same = is_same id_cmp_same id op.0.id (and_parts _ (same_id id op.0.id) (and_parts (same_name key op.1.key) _ h).1).1 in
      λ i. record { rank = op.0.rank; id = sym same i }

  -- the mark of a live put is that of what it keeps
  mark_is : (id : OpId) (l : IsLiveIn does ops key id) (p : Put) → (does l.op).add ≡ Some p → l.op.0 ≡ mark_of (id, p)
  mark_is id l p e = own l.op id l.is ∙ ap (λ rank. record { rank = rank; id = id }) (word_of l.op.0.rank l.op.1.word p e).1

  one : (id : OpId) (p q : Put) → In (id, p) (kept_at s key) → In (id, q) (kept_at s key) → p ≡ q
  one id p q i j = same_Some p q (sym ((kept_exact s key id p).0 i) ∙ (kept_exact s key id q).0 j)

  -- a live put, with what it keeps
  kept_put : (id : OpId) (l : IsLiveIn does ops key id) → (p : Put) × ((does l.op).add ≡ Some p) × In (id, p) (kept_at s key)
  kept_put id l = at l.op.1.word refl
    where
      at : (o : Option (List ℕ)) → l.op.1.word ≡ o → (p : Put) × ((does l.op).add ≡ Some p) × In (id, p) (kept_at s key)
      at None e = absurd (false≢true (ap is_some (sym (none e)) ∙ (and_parts (is_some (does l.op).add) _ (and_parts (same_name key l.op.1.key) _ l.is).1).0))
        where
          none : l.op.1.word ≡ None → (does l.op).add ≡ None
          none e = ap (option_map (λ word. record { rank = l.op.0.rank; word = word })) e
      at (Some w) e =
          let p : Put = record { rank = l.op.0.rank; word = w } in
          let add : (does l.op).add ≡ Some p = ap (option_map (λ word. record { rank = l.op.0.rank; word = word })) e in
          (p, add, (by.kept key id p).1 (l, add))

  pub value_exact : (word : List ℕ) → In (key, word) (pairs s) ↔ IsGreatestPut ops key word
  value_exact word = (to, from)
    where
      to : In (key, word) (pairs s) → IsGreatestPut ops key word
      to i =
          let w = greatest_is (kept_at s key) word (from_pairs s (live_names s) key word i).1 in
          let l = (by.kept key w.put.0 w.put.1).0 w.there in
          record {
            id = w.put.0;
            live = l.0;
            is = (word_of l.0.op.0.rank l.0.op.1.word w.put.1 l.1).0 ∙ ap Some w.is;
            above = λ other m.
                let k = kept_put other m in
                ap (λ a. is_lt (mark_cmp a m.op.0)) (mark_is w.put.0 l.0 w.put.1 l.1) ∙ (ap (λ b. is_lt (mark_cmp (mark_of w.put) b)) (mark_is other m k.0 k.1) ∙ w.above (other, k.0) k.2);
          }

      from : IsGreatestPut ops key word → In (key, word) (pairs s)
      from g =
          let k = kept_put g.id g.live in
          let w : IsWordOf (kept_at s key) word = record {
            put = (g.id, k.0);
            there = k.2;
            is = same_Some _ word (sym (word_of g.live.op.0.rank g.live.op.1.word k.0 k.1).0 ∙ g.is);
            above = λ p i.
                let l = (by.kept key p.0 p.1).0 i in
                ap (λ a. is_lt (mark_cmp a (mark_of p))) (sym (mark_is g.id g.live k.0 k.1)) ∙ (ap (λ b. is_lt (mark_cmp g.live.op.0 b)) (sym (mark_is p.0 l.0 p.1 l.1)) ∙ g.above p.0 l.0);
          } in
          in_pairs s (live_names s) key word ((by.names key).1 (g.id, g.live)) (is_greatest (kept_at s key) word one w)
