-- The parts of a point, and the tables that are made of parts.
use Rattle.std.proofs.Common.{◌≡◌, ℕ, Bool, true, false, cond, List, [], ◌∷◌, ◌++◌, Option, Some, None, map, refl, sym, ap, ◌∙◌, subst, arith}
use Rattle.std.specs.Prelude.{◌==◌}
use Rattle.std.specs.Cmp.{IsEquivalence, IsTotalOrder, nat_cmp_total}
use Rattle.std.specs.List.{AllByRecursion, IsDistinct}
use Rattle.std.specs.List.Sorted.{IsStrictlySortedBy}
use Rattle.std.specs.Map.{lookup, keys_of}
use Rattle.std.specs.Option.{option_or}
use Rattle.std.specs.Ordering.{nat_cmp, is_eq, ordering_reverse}
use Rattle.std.specs.BTreeMap.{is_at}
use Rattle.std.proofs.lemmas.Bool.Decides.{nat_tests}
use Rattle.std.proofs.lemmas.List.{append-nil}
use Rattle.std.proofs.lemmas.Map.Keys.{IsDistinct-head, IsDistinct-tail, IsDistinct-from_sorted}
use Rattle.std.proofs.lemmas.Map.Keys.{sorted_head, sorted_tail}
use Rattle.std.proofs.lemmas.Map.Lookups.{exact_unsigned}
use Rattle.std.proofs.lemmas.Bool.{false≢true}
use Rattle.std.proofs.lemmas.Option.{none-some, same_Some}
use Rattle.std.specs.declared.cmp.Ordering.{Ordering}
use Rattle.std.specs.declared.cmp.Ordering.TheVariants.{Less, Equal, Greater}
use Rattle.ids_core.specs.declared.object.ObjectId.{ObjectId}
use Rattle.ids_core.specs.Ids.{same_object}
use Rattle.ids_core.specs.Orders.{object_cmp, object_cmp_total, object_cmp_same, same_object-by_cmp}
use Rattle.tx_core.specs.declared.part.StatePart.{StatePart}
use Rattle.tx_core.specs.declared.state.State.{State}
use Rattle.check_point.specs.declared.part.Folded.{Folded}
use Rattle.check_point.specs.Points.{StateEntries, NumberEntries}
use Rattle.check_point.specs.PointParts.{state_entries, number_entries, AscendByClient, AscendByObject, HasNumbers, HasStates}

-- ---- look-ups

-- tests that agree find the same
pub lookup-agree : {K X : Type 0} (p q : K → Bool) (es : List (K × X)) → ((k : K) → p k ≡ q k) → lookup p es ≡ lookup q es
lookup-agree p q [] same = refl
lookup-agree p q (e ∷ es) same = ap (λ b. cond b (Some e.1) (lookup p es)) (same e.0) ∙ ap (λ r. cond (q e.0) (Some e.1) r) (lookup-agree p q es same)

-- beside nothing that was put in, the entries say it all
pub or_none : {X : Type 0} (r : Option X) → option_or r None ≡ r
or_none None = refl
or_none (Some x) = refl

-- what is left of all entries, beside nothing that was put in
pub all_left : {K X : Type 0} (p : K → Bool) (left all : List (K × X)) (none : Option X) → left ≡ all → none ≡ None → option_or (lookup p left) none ≡ lookup p all
all_left p left all none is empty = ap (λ l. option_or (lookup p l) none) is ∙ ap (option_or (lookup p all)) empty ∙ or_none (lookup p all)

-- once nothing is left, what was put in is all
pub none_left : {K X : Type 0} (p : K → Bool) (left all : List (K × X)) (put : Option X) → left ≡ [] → option_or (lookup p left) put ≡ lookup p all → put ≡ lookup p all
none_left p left all put none is = ap (λ l. option_or (lookup p l) put) (sym none) ∙ is

module _ {K X : Type 0} {eq : K → K → Bool} (laws : IsEquivalence eq) where
  -- behind a key that differs from all others it is not found
  none_behind : (k : K) (rest : List (K × X)) (q : K) → AllByRecursion (λ y. eq k y ≡ false) (keys_of rest) → eq q k ≡ true → lookup (eq q) rest ≡ None
  none_behind k [] q all same = refl
  none_behind k (e ∷ rest) q all same = ap (λ b. cond b (Some e.1) (lookup (eq q) rest)) (laws.congr q k e.0 same ∙ all.0) ∙ none_behind k rest q all.1 same

  -- what the entries that are left say, or else those that were put in, once one more was put in
  pub next_put : (k : K) (v : X) (left rest : List (K × X)) (q : K) (old new : Option X) → left ≡ (k, v) ∷ rest → IsDistinct eq (keys_of left) → new ≡ cond (eq k q) (Some v) old → option_or (lookup (eq q) rest) new ≡ option_or (lookup (eq q) left) old
  next_put k v left rest q old new is apart put = go (eq q k) refl ∙ ap (λ l. option_or (lookup (eq q) l) old) (sym is)
    where
      distinct : IsDistinct eq (k ∷ keys_of rest)
      distinct = subst (λ l. IsDistinct eq (keys_of l)) is apart

      go : (b : Bool) → eq q k ≡ b → option_or (lookup (eq q) rest) new ≡ option_or (lookup (eq q) ((k, v) ∷ rest)) old
      go true e =
          ap (λ r. option_or r new) (none_behind k rest q (IsDistinct-head eq k (keys_of rest) distinct) e)
          ∙ put ∙ ap (λ b. cond b (Some v) old) (laws.symm k q ∙ e)
          ∙ sym (ap (λ b. option_or (cond b (Some v) (lookup (eq q) rest)) old) e)
      go false e =
          ap (option_or (lookup (eq q) rest)) (put ∙ ap (λ b. cond b (Some v) old) (laws.symm k q ∙ e))
          ∙ sym (ap (λ b. option_or (cond b (Some v) (lookup (eq q) rest)) old) e)

  -- and where it was put in by an order, as a copy
  pub next_copied : (k : K) (v w : X) (left rest : List (K × X)) (q : K) (old new : Option X) (here : Bool) → left ≡ (k, v) ∷ rest → IsDistinct eq (keys_of left) → new ≡ cond here (Some w) old → eq k q ≡ here → w ≡ v → option_or (lookup (eq q) rest) new ≡ option_or (lookup (eq q) left) old
  next_copied k v w left rest q old new here is apart put same copy = next_put k v left rest q old new is apart (put ∙ ap (λ b. cond b (Some w) old) (sym same) ∙ ap (λ x. cond (eq k q) (Some x) old) copy)

  pub next_apart : (k : K) (v : X) (left rest : List (K × X)) → left ≡ (k, v) ∷ rest → IsDistinct eq (keys_of left) → IsDistinct eq (keys_of rest)
  next_apart k v left rest is apart = IsDistinct-tail eq k (keys_of rest) (subst (λ l. IsDistinct eq (keys_of l)) is apart)

-- ---- in order

pub number_test : (client c : ℕ) → (client == c) ≡ is_at (nat_cmp client) c
number_test client c = grind (arith, nat_tests)

keys-numbers : (parts : List Folded) → map (λ (p : Folded). p.client) parts ≡ keys_of (number_entries parts)
keys-numbers [] = refl
keys-numbers (p ∷ parts) = ap (λ l. p.client ∷ l) (keys-numbers parts)

keys-states : (parts : List StatePart) → map (λ (p : StatePart). p.object) parts ≡ keys_of (state_entries parts)
keys-states [] = refl
keys-states (p ∷ parts) = ap (λ l. p.object ∷ l) (keys-states parts)

-- the parts of entries that ascend
pub numbers_ascend : (parts : List Folded) (es : NumberEntries) → number_entries parts ≡ es → IsStrictlySortedBy nat_cmp (keys_of es) → AscendByClient parts
numbers_ascend parts es is sorted = subst (IsStrictlySortedBy nat_cmp) (sym (keys-numbers parts ∙ ap keys_of is)) sorted

pub states_ascend : (parts : List StatePart) (es : StateEntries) → state_entries parts ≡ es → IsStrictlySortedBy object_cmp (keys_of es) → AscendByObject parts
states_ascend parts es is sorted = subst (IsStrictlySortedBy object_cmp) (sym (keys-states parts ∙ ap keys_of is)) sorted

pub numbers_told : (parts : List Folded) (es kept : NumberEntries) → number_entries parts ≡ es → ((client : ℕ) → lookup (is_at (nat_cmp client)) es ≡ lookup (λ c. client == c) kept) → HasNumbers kept parts
numbers_told parts es kept is told client = lookup-agree (λ c. client == c) (is_at (nat_cmp client)) (number_entries parts) (number_test client) ∙ ap (lookup (is_at (nat_cmp client))) is ∙ told client

pub states_told : (parts : List StatePart) (es kept : StateEntries) → state_entries parts ≡ es → ((o : ObjectId) → lookup (is_at (object_cmp o)) es ≡ lookup (same_object o) kept) → HasStates kept parts
states_told parts es kept is told o = lookup-agree (same_object o) (is_at (object_cmp o)) (state_entries parts) (same_object-by_cmp o) ∙ ap (lookup (is_at (object_cmp o))) is ∙ told o

-- ---- the only ones

eq_from : (r : Ordering) → is_eq r ≡ true → r ≡ Equal
eq_from Less e = absurd (false≢true e)
eq_from Equal e = refl
eq_from Greater e = absurd (false≢true e)

itself : {K : Type 0} (R : K → K → Ordering) → IsTotalOrder R → (k : K) → R k k ≡ Equal
itself R o k = go (R k k) (o.antisymm k k)
  where
    go : (r : Ordering) → r ≡ ordering_reverse r → r ≡ Equal
    go Less e = cc
    go Equal e = refl
    go Greater e = cc

module _ {K X : Type 0} (R : K → K → Ordering) (o : IsTotalOrder R) (exact : (x y : K) → R x y ≡ Equal → x ≡ y) where
  abbrev find : K → List (K × X) → Option X
  find q es = lookup (is_at (R q)) es

  found_first : (e : K × X) (es : List (K × X)) → find e.0 (e ∷ es) ≡ Some e.1
  found_first e es = ap (λ r. cond (is_eq r) (Some e.1) (find e.0 es)) (itself R o e.0)

  -- a key below all others is not found
  below_none : (q : K) (es : List (K × X)) → AllByRecursion (λ y. R q y ≡ Less) (keys_of es) → find q es ≡ None
  below_none q [] all = refl
  below_none q (e ∷ es) all = ap (λ r. cond (is_eq r) (Some e.1) (find q es)) all.0 ∙ below_none q es all.1

  below_all : (q k : K) (es : List (K × X)) → R q k ≡ Less → AllByRecursion (λ y. R k y ≡ Less) (keys_of es) → AllByRecursion (λ y. R q y ≡ Less) (keys_of es)
  below_all q k [] lt all = tt
  below_all q k (e ∷ es) lt all = (o.trans q k e.0 lt all.0, below_all q k es lt all.1)

  -- entries whose keys ascend are settled by what is found
  pub one_list : (es fs : List (K × X)) → IsStrictlySortedBy R (keys_of es) → IsStrictlySortedBy R (keys_of fs) → ((q : K) → find q es ≡ find q fs) → es ≡ fs
  one_list [] [] up rise same = refl
  one_list [] (f ∷ fs) up rise same = absurd (none-some f.1 (same f.0 ∙ found_first f fs))
  one_list (e ∷ es) [] up rise same = absurd (none-some e.1 (sym (same e.0) ∙ found_first e es))
  one_list (e ∷ es) (f ∷ fs) up rise same = go (R e.0 f.0) refl (λ rest. one_list es fs (sorted_tail R e.0 (keys_of es) up) (sorted_tail R f.0 (keys_of fs) rise) rest)
    where
      above : AllByRecursion (λ y. R e.0 y ≡ Less) (keys_of es)
      above = sorted_head R e.0 (keys_of es) up

      beyond : AllByRecursion (λ y. R f.0 y ≡ Less) (keys_of fs)
      beyond = sorted_head R f.0 (keys_of fs) rise

      rest : e.0 ≡ f.0 → (q : K) → find q es ≡ find q fs
      rest key q = at (is_eq (R q e.0)) refl
        where
          at : (b : Bool) → is_eq (R q e.0) ≡ b → find q es ≡ find q fs
          at true t =
              let here : q ≡ e.0 = exact q e.0 (eq_from (R q e.0) t) in
              ap (λ k. find k es) here ∙ below_none e.0 es above ∙ sym (ap (λ k. find k fs) (here ∙ key) ∙ below_none f.0 fs beyond)
          at false t =
              sym (ap (λ b. cond b (Some e.1) (find q es)) t) ∙ same q ∙ ap (λ b. cond b (Some f.1) (find q fs)) (ap (λ k. is_eq (R q k)) (sym key) ∙ t)

      go : (r : Ordering) → R e.0 f.0 ≡ r → (((q : K) → find q es ≡ find q fs) → es ≡ fs) → (e ∷ es) ≡ (f ∷ fs)
      go Less lt more = absurd (none-some e.1 (sym (below_none e.0 (f ∷ fs) (lt, below_all e.0 f.0 fs lt beyond)) ∙ sym (same e.0) ∙ found_first e es))
      go Equal eq more =
          let key : e.0 ≡ f.0 = exact e.0 f.0 eq in
          let value : e.1 ≡ f.1 = same_Some e.1 f.1 (sym (found_first e es) ∙ same e.0 ∙ ap (λ k. find k (f ∷ fs)) key ∙ found_first f fs) in
          let tail = more (rest key) in
          λ i. (key i, value i) ∷ tail i
      go Greater gt more =
          let lt : R f.0 e.0 ≡ Less = o.antisymm f.0 e.0 ∙ ap ordering_reverse gt in
          absurd (none-some f.1 (sym (below_none f.0 (e ∷ es) (lt, below_all f.0 e.0 es lt above)) ∙ same f.0 ∙ found_first f fs))

numbers_back : (parts : List Folded) → map (λ (e : ℕ × ℕ). record { client = e.0; number = e.1 }) (number_entries parts) ≡ parts
numbers_back [] = refl
numbers_back (p ∷ parts) = ap (λ l. p ∷ l) (numbers_back parts)

pub numbers_only : (kept : NumberEntries) (parts others : List Folded) → AscendByClient parts → HasNumbers kept parts → AscendByClient others → HasNumbers kept others → others ≡ parts
numbers_only kept parts others up told rise said = sym (numbers_back others) ∙ ap (map (λ (e : ℕ × ℕ). record { client = e.0; number = e.1 })) same ∙ numbers_back parts
  where
    by_order : (ps : List Folded) (client : ℕ) → lookup (is_at (nat_cmp client)) (number_entries ps) ≡ lookup (λ c. client == c) (number_entries ps)
    by_order ps client = sym (lookup-agree (λ c. client == c) (is_at (nat_cmp client)) (number_entries ps) (number_test client))

    same : number_entries others ≡ number_entries parts
    same = one_list nat_cmp nat_cmp_total exact_unsigned (number_entries others) (number_entries parts) (subst (IsStrictlySortedBy nat_cmp) (keys-numbers others) rise) (subst (IsStrictlySortedBy nat_cmp) (keys-numbers parts) up) (λ client. by_order others client ∙ said client ∙ sym (told client) ∙ sym (by_order parts client))

states_back : (parts : List StatePart) → map (λ (e : ObjectId × State). record { object = e.0; state = e.1 }) (state_entries parts) ≡ parts
states_back [] = refl
states_back (p ∷ parts) = ap (λ l. p ∷ l) (states_back parts)

pub states_only : (kept : StateEntries) (parts others : List StatePart) → AscendByObject parts → HasStates kept parts → AscendByObject others → HasStates kept others → others ≡ parts
states_only kept parts others up told rise said = sym (states_back others) ∙ ap (map (λ (e : ObjectId × State). record { object = e.0; state = e.1 })) same ∙ states_back parts
  where
    by_order : (ps : List StatePart) (o : ObjectId) → lookup (is_at (object_cmp o)) (state_entries ps) ≡ lookup (same_object o) (state_entries ps)
    by_order ps o = sym (lookup-agree (same_object o) (is_at (object_cmp o)) (state_entries ps) (same_object-by_cmp o))

    same : state_entries others ≡ state_entries parts
    same = one_list object_cmp object_cmp_total object_cmp_same (state_entries others) (state_entries parts) (subst (IsStrictlySortedBy object_cmp) (keys-states others) rise) (subst (IsStrictlySortedBy object_cmp) (keys-states parts) up) (λ o. by_order others o ∙ said o ∙ sym (told o) ∙ sym (by_order parts o))

-- ---- made again

-- where keys ascend they differ
pub numbers_apart : (parts : List Folded) → AscendByClient parts → IsDistinct (λ a b. a == b) (keys_of (number_entries parts))
numbers_apart parts up = subst (λ (e : ℕ → ℕ → Bool). IsDistinct e (keys_of (number_entries parts))) (λ i a b. sym (number_test a b) i) (IsDistinct-from_sorted nat_cmp (keys_of (number_entries parts)) (subst (IsStrictlySortedBy nat_cmp) (keys-numbers parts) up))

pub states_apart : (parts : List StatePart) → AscendByObject parts → IsDistinct same_object (keys_of (state_entries parts))
states_apart parts up = subst (λ (e : ObjectId → ObjectId → Bool). IsDistinct e (keys_of (state_entries parts))) (λ i a b. sym (same_object-by_cmp a b) i) (IsDistinct-from_sorted object_cmp (keys_of (state_entries parts)) (subst (IsStrictlySortedBy object_cmp) (keys-states parts) up))

-- what was put in is all, once nothing is left
pub all_put : {X : Type 0} (put left all es : List X) → put ++ left ≡ all → left ≡ [] → all ≡ es → put ≡ es
all_put put left all es is none same = sym (append-nil put) ∙ ap (λ l. put ++ l) (sym none) ∙ is ∙ same
