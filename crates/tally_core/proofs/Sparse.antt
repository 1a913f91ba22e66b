-- What a change of a sparse map answers, and that changes commute.
use Rattle.std.proofs.Common.{◌≡◌, ◌⊎◌, Bool, true, false, cond, not, ◌&&◌, Option, Some, None, refl, sym, ap, ◌∙◌, subst, inl, inr, List, [], ◌∷◌}
use Rattle.std.specs.Prelude.{T, filter}
use Rattle.std.specs.Option.{unwrap_or}
use Rattle.std.specs.Ordering.{eq_by_cmp, is_eq, is_lt}
use Rattle.std.specs.Cmp.{IsTotalOrder, IsEquivalence}
use Rattle.std.proofs.lemmas.List.{nil_from_length}
use Rattle.std.proofs.lemmas.Cmp.{eq_by_cmp_equiv}
use Rattle.std.proofs.lemmas.Bool.{cases_Bool, false≢true}
use Rattle.std.specs.declared.cmp.Ordering.{Ordering}
use Rattle.std.specs.declared.cmp.Ordering.TheVariants.{Less, Equal, Greater}
use Rattle.std.specs.FinMap.{FinMap, empty, entries, entries_sorted, is_sorted, get, insert, put, remove, get-insert, get-remove, get-empty, entries-insert, len-entries, len-empty, same_map, IsAntisymmetric}
use Rattle.std.specs.FinMap.Entries.{below_all}
use Rattle.std.specs.List.{AllByRecursion}
use Rattle.std.specs.List.Sorted.{IsStrictlySortedBy}
use Rattle.std.specs.Map.{lookup, keys_of}
use Rattle.std.specs.BTreeMap.{is_at}
use Rattle.tally_core.specs.Sparse.{at, put_at, change, from_sparse}

-- what says that it is equal is so
pub equal_of : (r : Ordering) → is_eq r ≡ true → r ≡ Equal
equal_of Less e = cc
equal_of Equal e = refl
equal_of Greater e = cc

-- what ties is the same
pub is_same : {K : Type 0} {R : K → K → Ordering} → IsAntisymmetric R → (x y : K) → eq_by_cmp R x y ≡ true → x ≡ y
is_same {R = R} same x y e = same x y (equal_of (R x y) e)

swap : {A : Type 0} (a b : Bool) (x y z : A) → (a ≡ true → b ≡ true → ⊥) → cond a x (cond b y z) ≡ cond b y (cond a x z)
swap true true x y z h = absurd (h refl refl)
swap true false x y z h = refl
swap false b x y z h = refl

again : {A : Type 0} (b : Bool) (x y u v z : A) → x ≡ v → cond b x (cond b y z) ≡ cond b v (cond b u z)
again true x y u v z e = e
again false x y u v z e = refl

module _ {X : Type 0} (is_zero : X → Bool) where
  -- what is stored of a value
  abbrev pub stored : X → Option X
  stored x = cond (is_zero x) None (Some x)

  -- what is seen of what a search among the entries finds
  abbrev pub shown : Option X → Option X
  shown None = None
  shown (Some x) = stored x

module _ {K X : Type 0} {R : K → K → Ordering} (zero : X) (is_zero : X → Bool) (o : IsTotalOrder R) (same : IsAntisymmetric R) where
  pub get-put_at : (m : FinMap R X) (k : K) (x : X) (q : K) → get (put_at zero is_zero m k x) q ≡ cond (eq_by_cmp R q k) (stored is_zero x) (get m q)
  unfolding put_at
  get-put_at m k x q = elim (is_zero x) as (λ b. get (cond b (remove m k) (insert m k x)) q ≡ cond (eq_by_cmp R q k) (cond b None (Some x)) (get m q)) [ true ↦ get-remove o m k q | false ↦ get-insert o m k x q ]

  pub get-change : (m : FinMap R X) (k : K) (f : X → X) (q : K) → get (change zero is_zero m k f) q ≡ cond (eq_by_cmp R q k) (stored is_zero (f (at zero is_zero m k))) (get m q)
  unfolding change
  get-change m k f q = get-put_at m k (f (at zero is_zero m k)) q

  laws : IsEquivalence (eq_by_cmp R)
  laws = eq_by_cmp_equiv o

  pub get-sparse : (es : List (K × X)) (q : K) → get (from_sparse {R = R} zero is_zero es) q ≡ shown is_zero (lookup (is_at (R q)) es)
  get-sparse [] q = get-empty R q
  get-sparse (e ∷ es) q = get-put_at (from_sparse zero is_zero es) e.0 e.1 q ∙ (ap (cond (eq_by_cmp R q e.0) (stored is_zero e.1)) (get-sparse es q) ∙ out (eq_by_cmp R q e.0))
    where
      out : (b : Bool) → cond b (stored is_zero e.1) (shown is_zero (lookup (is_at (R q)) es)) ≡ shown is_zero (cond b (Some e.1) (lookup (is_at (R q)) es))
      out true = refl
      out false = refl

  -- the entries of a tree after one update of its own
  pub sparse_updated : (es fs : List (K × X)) (k : K) (x : X) (w : Option X) → shown is_zero w ≡ stored is_zero x → ((q : K) → lookup (is_at (R q)) fs ≡ cond (is_at (R k) q) w (lookup (is_at (R q)) es)) → from_sparse {R = R} zero is_zero fs ≡ put_at zero is_zero (from_sparse zero is_zero es) k x
  sparse_updated es fs k x w s u = same_map o same _ _ (λ q.
      get-sparse fs q ∙ (ap (shown is_zero) (u q) ∙ (out (is_at (R k) q) q
      ∙ (ap (λ b. cond b (stored is_zero x) (shown is_zero (lookup (is_at (R q)) es))) (laws.symm k q)
      ∙ (ap (cond (eq_by_cmp R q k) (stored is_zero x)) (sym (get-sparse es q)) ∙ sym (get-put_at (from_sparse zero is_zero es) k x q))))))
    where
      out : (b : Bool) (q : K) → shown is_zero (cond b w (lookup (is_at (R q)) es)) ≡ cond b (stored is_zero x) (shown is_zero (lookup (is_at (R q)) es))
      out true q = s
      out false q = refl

  -- an update that shows what was shown changes nothing
  pub sparse_kept : (es fs : List (K × X)) (k : K) (w : Option X) → shown is_zero w ≡ shown is_zero (lookup (is_at (R k)) es) → ((q : K) → lookup (is_at (R q)) fs ≡ cond (is_at (R k) q) w (lookup (is_at (R q)) es)) → from_sparse {R = R} zero is_zero fs ≡ from_sparse zero is_zero es
  sparse_kept es fs k w s u = same_map o same _ _ (λ q. get-sparse fs q ∙ (ap (shown is_zero) (u q) ∙ (out q (cases_Bool (eq_by_cmp R k q)) ∙ sym (get-sparse es q))))
    where
      out : (q : K) → (eq_by_cmp R k q ≡ true) ⊎ (eq_by_cmp R k q ≡ false) → shown is_zero (cond (eq_by_cmp R k q) w (lookup (is_at (R q)) es)) ≡ shown is_zero (lookup (is_at (R q)) es)
      out q (inl e) = rw e (s ∙ ap (λ q. shown is_zero (lookup (is_at (R q)) es)) (is_same same k q e))
      out q (inr e) = rw e refl

module _ {K X : Type 0} {R : K → K → Ordering} (zero : X) (is_zero : X → Bool) (o : IsTotalOrder R) (same : IsAntisymmetric R) (z : (x : X) → is_zero x ≡ true → x ≡ zero) where
  unstored : (x : X) → unwrap_or (stored is_zero x) zero ≡ x
  unstored x = elim (is_zero x) as (λ b. is_zero x ≡ b → unwrap_or (cond b None (Some x)) zero ≡ x) [ true ↦ λ e. sym (z x e) | false ↦ λ e. refl ] refl

  pub at-put_at : (m : FinMap R X) (k : K) (x : X) (q : K) → at zero is_zero (put_at zero is_zero m k x) q ≡ cond (eq_by_cmp R q k) x (at zero is_zero m q)
  at-put_at m k x q = ap (λ v. unwrap_or v zero) (get-put_at zero is_zero o same m k x q) ∙ turn (eq_by_cmp R q k)
    where
      turn : (b : Bool) → unwrap_or (cond b (stored is_zero x) (get m q)) zero ≡ cond b x (unwrap_or (get m q) zero)
      turn true = unstored x
      turn false = refl

  pub at-change : (m : FinMap R X) (k : K) (f : X → X) (q : K) → at zero is_zero (change zero is_zero m k f) q ≡ cond (eq_by_cmp R q k) (f (at zero is_zero m k)) (at zero is_zero m q)
  unfolding change
  at-change m k f q = at-put_at m k (f (at zero is_zero m k)) q

  twice : (m : FinMap R X) (j k : K) (f g : X → X) (q : K) → get (change zero is_zero (change zero is_zero m j f) k g) q ≡ cond (eq_by_cmp R q k) (stored is_zero (g (cond (eq_by_cmp R k j) (f (at zero is_zero m j)) (at zero is_zero m k)))) (cond (eq_by_cmp R q j) (stored is_zero (f (at zero is_zero m j))) (get m q))
  twice m j k f g q =
      get-change zero is_zero o same (change zero is_zero m j f) k g q
      ∙ (ap (λ x. cond (eq_by_cmp R q k) (stored is_zero (g x)) (get (change zero is_zero m j f) q)) (at-change m j f k)
      ∙ ap (λ x. cond (eq_by_cmp R q k) (stored is_zero (g (cond (eq_by_cmp R k j) (f (at zero is_zero m j)) (at zero is_zero m k)))) x) (get-change zero is_zero o same m j f q))

  -- changes commute where those at one key do
  pub changes_commute : (m : FinMap R X) (j k : K) (f g : X → X) → (j ≡ k → (x : X) → g (f x) ≡ f (g x)) → change zero is_zero (change zero is_zero m j f) k g ≡ change zero is_zero (change zero is_zero m k g) j f
  changes_commute m j k f g c = same_map o same _ _ (λ q. twice m j k f g q ∙ (go q (cases_Bool (eq_by_cmp R k j)) ∙ sym (twice m k j g f q)))
    where
      go : (q : K) → (eq_by_cmp R k j ≡ true) ⊎ (eq_by_cmp R k j ≡ false) → cond (eq_by_cmp R q k) (stored is_zero (g (cond (eq_by_cmp R k j) (f (at zero is_zero m j)) (at zero is_zero m k)))) (cond (eq_by_cmp R q j) (stored is_zero (f (at zero is_zero m j))) (get m q)) ≡ cond (eq_by_cmp R q j) (stored is_zero (f (cond (eq_by_cmp R j k) (g (at zero is_zero m k)) (at zero is_zero m j)))) (cond (eq_by_cmp R q k) (stored is_zero (g (at zero is_zero m k))) (get m q))
      go q (inl e) =
          let a = at zero is_zero m in
          let P : K → Type 0 = λ k. cond (eq_by_cmp R q k) (stored is_zero (g (cond (eq_by_cmp R k j) (f (a j)) (a k)))) (cond (eq_by_cmp R q j) (stored is_zero (f (a j))) (get m q)) ≡ cond (eq_by_cmp R q j) (stored is_zero (f (cond (eq_by_cmp R j k) (g (a k)) (a j)))) (cond (eq_by_cmp R q k) (stored is_zero (g (a k))) (get m q)) in
          let p : k ≡ j = is_same same k j e in
          subst P (sym p) (rw ((eq_by_cmp_equiv o).refl j) (again (eq_by_cmp R q j) _ _ _ _ _ (ap (stored is_zero) (c (sym p) (a j)))))
      go q (inr e) = rw (e, (eq_by_cmp_equiv o).symm j k, e) (swap (eq_by_cmp R q k) (eq_by_cmp R q j) _ _ _ (λ s t. false≢true (sym e ∙ (sym ((eq_by_cmp_equiv o).congr q k j s) ∙ t))))

  pub at-sparse : (es : List (K × X)) (q : K) → at zero is_zero (from_sparse {R = R} zero is_zero es) q ≡ unwrap_or (lookup (is_at (R q)) es) zero
  at-sparse es q = ap (λ v. unwrap_or v zero) (get-sparse zero is_zero o same es q) ∙ out (lookup (is_at (R q)) es)
    where
      out : (o : Option X) → unwrap_or (shown is_zero o) zero ≡ unwrap_or o zero
      out None = refl
      out (Some x) = unstored x

parts : (a b : Bool) → T (a && b) → T a × T b
parts true b h = (tt, h)
parts false b h = absurd h

less : (o : Ordering) → T (is_lt o) → o ≡ Less
less Less h = refl
less Equal h = absurd h
less Greater h = absurd h

module _ {K X : Type 0} (R : K → K → Ordering) where
  -- what is above each key of a list is not in it
  pub none_above : (k : K) (es : List (K × X)) → AllByRecursion (λ y. R k y ≡ Less) (keys_of es) → lookup (is_at (R k)) es ≡ None
  none_above k [] h = refl
  none_above k (e ∷ es) h = rw h.0 (none_above k es h.1)

  put_first : (k : K) (v : X) (es : List (K × X)) → AllByRecursion (λ y. R k y ≡ Less) (keys_of es) → put R k v es ≡ (k, v) ∷ es
  put_first k v [] h = refl
  put_first k v (e ∷ es) h = rw h.0 refl

  -- what holds of each key holds of those that are kept
  pub all_kept : (Q : K → Type 0) (p : K × X → Bool) (es : List (K × X)) → AllByRecursion Q (keys_of es) → AllByRecursion Q (keys_of (filter p es))
  all_kept Q p [] h = h
  all_kept Q p (e ∷ es) h = at (p e) (all_kept Q p es h.1)
    where
      at : (b : Bool) → AllByRecursion Q (keys_of (filter p es)) → AllByRecursion Q (keys_of (cond b (e ∷ filter p es) (filter p es)))
      at true ih = (h.0, ih)
      at false ih = ih

  -- kept entries stay sorted
  pub sorted_kept : (p : K × X → Bool) (es : List (K × X)) → IsStrictlySortedBy R (keys_of es) → IsStrictlySortedBy R (keys_of (filter p es))
  unfolding IsStrictlySortedBy
  sorted_kept p [] h = h
  sorted_kept p (e ∷ es) h = at (p e) (sorted_kept p es h.1)
    where
      at : (b : Bool) → IsStrictlySortedBy R (keys_of (filter p es)) → IsStrictlySortedBy R (keys_of (cond b (e ∷ filter p es) (filter p es)))
      at true ih = (all_kept (λ y. R e.0 y ≡ Less) p es h.0, ih)
      at false ih = ih

  sorted_below : (k : K) (es : List (K × X)) → T (below_all R k es) → AllByRecursion (λ y. R k y ≡ Less) (keys_of es)
  sorted_below k [] h = tt
  sorted_below k (e ∷ es) h = let p = parts (is_lt (R k e.0)) (below_all R k es) h in (less (R k e.0) p.0, sorted_below k es p.1)

  sorted_from : (es : List (K × X)) → T (is_sorted R es) → IsStrictlySortedBy R (keys_of es)
  unfolding IsStrictlySortedBy
  sorted_from [] h = tt
  sorted_from (e ∷ es) h = let p = parts (below_all R e.0 es) (is_sorted R es) h in (sorted_below e.0 es p.0, sorted_from es p.1)

  -- the keys of a finite map are strictly sorted
  pub sorted_keys : (m : FinMap R X) → IsStrictlySortedBy R (keys_of (entries m))
  sorted_keys m = sorted_from (entries m) (entries_sorted m)

module _ {K X : Type 0} {R : K → K → Ordering} (zero : X) (is_zero : X → Bool) (o : IsTotalOrder R) (same : IsAntisymmetric R) where
  -- the entries of a sparse map, from sorted ones
  pub entries-sparse : (es : List (K × X)) → IsStrictlySortedBy R (keys_of es) → entries (from_sparse {R = R} zero is_zero es) ≡ filter (λ e. not (is_zero e.1)) es
  unfolding IsStrictlySortedBy put_at
  entries-sparse [] h = nil_from_length (entries (empty {X = X} {R = R})) (sym (len-entries (empty {X = X} {R = R})) ∙ len-empty R X)
  entries-sparse (e ∷ es) h = at (is_zero e.1) (entries-sparse es h.1)
    where
      m : FinMap R X
      m = from_sparse {R = R} zero is_zero es

      gone : get m e.0 ≡ None
      gone = get-sparse zero is_zero o same es e.0 ∙ rw (none_above R e.0 es h.0) refl

      stays : remove m e.0 ≡ m
      stays = same_map o same _ _ (λ q. get-remove o m e.0 q ∙ out q (cases_Bool (eq_by_cmp R q e.0)))
        where
          out : (q : K) → (eq_by_cmp R q e.0 ≡ true) ⊎ (eq_by_cmp R q e.0 ≡ false) → cond (eq_by_cmp R q e.0) None (get m q) ≡ get m q
          out q (inl t) = rw (t, is_same same q e.0 t) (sym gone)
          out q (inr f) = rw f refl

      at : (b : Bool) → entries m ≡ filter (λ e. not (is_zero e.1)) es → entries (cond b (remove m e.0) (insert m e.0 e.1)) ≡ cond (not b) (e ∷ filter (λ e. not (is_zero e.1)) es) (filter (λ e. not (is_zero e.1)) es)
      at true ih = ap entries stays ∙ ih
      at false ih = entries-insert o m e.0 e.1 ∙ (ap (put R e.0 e.1) ih ∙ put_first R e.0 e.1 _ (all_kept R (λ y. R e.0 y ≡ Less) (λ e. not (is_zero e.1)) es h.0))
