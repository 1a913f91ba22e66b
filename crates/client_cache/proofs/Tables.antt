-- A table of what is kept of objects, as the list of its entries.
use Rattle.std.proofs.Common.{◌≡◌, ◌≤◌, ℕ, zero, suc, ◌+◌, ◌-◌, Bool, true, false, cond, List, [], ◌∷◌, length, take, Option, Some, None, refl, sym, ap, ◌∙◌, subst, arith}
use Rattle.std.specs.Prelude.{is_some, slice_get}
use Rattle.std.proofs.lemmas.Bool.{false≢true}
use Rattle.std.specs.Option.{option_map, option_map_or}
use Rattle.std.specs.Map.{keys_of, lookup, lookup_entry, remove_entry, set_value}
use Rattle.std.specs.List.{IsDistinct, AllByRecursion}
use Rattle.std.proofs.lemmas.List.{take-map, length-map, take_all}
use Rattle.std.proofs.lemmas.Map.Keys.{IsDistinct-head, IsDistinct-tail}
use Rattle.std.proofs.lemmas.Option.{none-some, same_Some}
use Rattle.lru.specs.LruCache as lru
use Rattle.list_core.specs.Firsts.{first_that, without_first}
use Rattle.ids_core.specs.declared.object.ObjectId.{ObjectId}
use Rattle.ids_core.specs.Ids.{same_object}
use Rattle.ids_core.specs.Same.{same_object-true, same_object_equivalence}
use Rattle.ids_core.specs.declared.ids.Mark.{Mark}
use Rattle.tx_core.specs.declared.op.Op.{Op}
use Rattle.tx_core.specs.declared.state.State.{State}
use Rattle.tx_core.specs.States.{fold_of}
use Rattle.dc_talk.specs.declared.calls.Cached.{Cached}
use Rattle.dc_talk.specs.Clients.{is_entry, is_of, same_vector, cached, promoted, forgotten, kept}
use Rattle.client_cache.specs.Caches.{StateAt}
use Rattle.client_cache.specs.Peeks.{HasOnly, HasNone}
use Rattle.client_cache.specs.Tables.{as_entry, entries_of, is_held_at}

-- an object is found the same from either side
turned : (a b : ObjectId) (r : Bool) → same_object a b ≡ r → same_object b a ≡ r
turned a b r is = same_object_equivalence.symm b a ∙ is

-- what is kept at the vector is there
pub there : (w : List ℕ) (kept : Option StateAt) → is_held_at w kept ≡ true → (h : StateAt) × (kept ≡ Some h) × (same_vector h.vector w ≡ true)
there w None is = absurd (false≢true is)
there w (Some h) is = (h, refl, is)

module _ (o : ObjectId) where
  -- no entry of other objects is the one
  others : (w : List ℕ) (es : List (ObjectId × StateAt)) → AllByRecursion (λ k. same_object o k ≡ false) (keys_of es) → first_that (is_entry o w) (entries_of es) ≡ None
  others w [] apart = refl
  others w (e ∷ es) apart = rw (turned o e.0 false apart.0) (others w es apart.1)

  -- where what is kept of the object is not at the vector, no entry is the one
  pub missed : (w : List ℕ) (es : List (ObjectId × StateAt)) → IsDistinct same_object (keys_of es) → is_held_at w (lookup (same_object o) es) ≡ false → first_that (is_entry o w) (entries_of es) ≡ None
  missed w [] distinct is = refl
  missed w (e ∷ es) distinct is = by (same_object o e.0) refl is (missed w es (IsDistinct-tail same_object e.0 (keys_of es) distinct))
    where
      by : (b : Bool) → same_object o e.0 ≡ b → is_held_at w (cond b (Some e.1) (lookup (same_object o) es)) ≡ false → (is_held_at w (lookup (same_object o) es) ≡ false → first_that (is_entry o w) (entries_of es) ≡ None) → first_that (is_entry o w) (entries_of (e ∷ es)) ≡ None
      by true same is rest =
          let key : e.0 ≡ o = sym (same_object-true o e.0 same) in
          rw (turned o e.0 true same, is) (others w es (subst (λ k. AllByRecursion (λ q. same_object k q ≡ false) (keys_of es)) key (IsDistinct-head same_object e.0 (keys_of es) distinct)))
      by false same is rest = rw (turned o e.0 false same) (rest is)

  -- the entry that is found, and the others
  pub record Hit (w : List ℕ) (es : List (ObjectId × StateAt)) (h : StateAt) : Type 0 where
    pub first : first_that (is_entry o w) (entries_of es) ≡ Some (as_entry (o, h))
    pub rest : without_first (is_entry o w) (entries_of es) ≡ entries_of (remove_entry (same_object o) es)
    pub entry : lookup_entry (same_object o) es ≡ Some (o, h)

  pub hit : (w : List ℕ) (es : List (ObjectId × StateAt)) (h : StateAt) → lookup (same_object o) es ≡ Some h → same_vector h.vector w ≡ true → Hit w es h
  hit w [] h is at = absurd (none-some h is)
  hit w (e ∷ es) h is at = by (same_object o e.0) refl is (λ there. hit w es h there at)
    where
      by : (b : Bool) → same_object o e.0 ≡ b → cond b (Some e.1) (lookup (same_object o) es) ≡ Some h → (lookup (same_object o) es ≡ Some h → Hit w es h) → Hit w (e ∷ es) h
      by true same there rest =
          let held : e.1 ≡ h = same_Some e.1 h there in
          let key : e.0 ≡ o = sym (same_object-true o e.0 same) in
          let here : same_vector e.1.vector w ≡ true = ap (λ x. same_vector x.vector w) held ∙ at in
          let one : e ≡ (o, h) = λ i. (key i, held i) in
          record {
            first = rw (turned o e.0 true same, here) (ap (λ x. Some (as_entry x)) one);
            rest = rw (turned o e.0 true same, here, same) refl;
            entry = rw same (ap Some one);
          }
      by false same there rest =
          let r = rest there in
          record {
            first = rw (turned o e.0 false same) r.first;
            rest = rw (turned o e.0 false same, same) (ap (λ xs. as_entry e ∷ xs) r.rest);
            entry = rw same r.entry;
          }

  -- the table whose entry of the object was used has it first
  pub moved : (w : List ℕ) (es : List (ObjectId × StateAt)) (h : StateAt) → Hit w es h → promoted o w (entries_of es) ≡ entries_of (lru.promoted (same_object o) es)
  moved w es h is = rw (is.first, is.rest, is.entry) refl

  pub moved_first : (w : List ℕ) (es : List (ObjectId × StateAt)) (h : StateAt) → Hit w es h → slice_get (lru.promoted (same_object o) es) 0 ≡ Some (o, h)
  moved_first w es h is = rw is.entry refl

  -- the entries of other objects
  abbrev apart : List Cached → List Cached
  apart = without_first (λ c. same_object c.object o)

  none_gone : (es : List (ObjectId × StateAt)) → lookup_entry (same_object o) es ≡ None → apart (entries_of es) ≡ entries_of es
  none_gone [] is = refl
  none_gone (e ∷ es) is = by (same_object o e.0) refl is (none_gone es)
    where
      by : (b : Bool) → same_object o e.0 ≡ b → cond b (Some e) (lookup_entry (same_object o) es) ≡ None → (lookup_entry (same_object o) es ≡ None → apart (entries_of es) ≡ entries_of es) → apart (entries_of (e ∷ es)) ≡ entries_of (e ∷ es)
      by true same none rest = absurd (none-some e (sym none))
      by false same none rest = rw (turned o e.0 false same) (ap (λ xs. as_entry e ∷ xs) (rest none))

  -- the entry of the object is gone, and the others stand
  record Gone (es : List (ObjectId × StateAt)) (f : ObjectId × StateAt) : Type 0 where
    rest : apart (entries_of es) ≡ entries_of (remove_entry (same_object o) es)
    less : length (remove_entry (same_object o) es) + 1 ≡ length es
    key : f.0 ≡ o

  one_gone : (es : List (ObjectId × StateAt)) (f : ObjectId × StateAt) → lookup_entry (same_object o) es ≡ Some f → Gone es f
  one_gone [] f is = absurd (none-some f is)
  one_gone (e ∷ es) f is = by (same_object o e.0) refl is (one_gone es f)
    where
      by : (b : Bool) → same_object o e.0 ≡ b → cond b (Some e) (lookup_entry (same_object o) es) ≡ Some f → (lookup_entry (same_object o) es ≡ Some f → Gone es f) → Gone (e ∷ es) f
      by true same there rest =
          record {
            rest = rw (turned o e.0 true same, same) refl;
            less = rw same (omega arith);
            key = ap (λ x. x.0) (sym (same_Some e f there)) ∙ sym (same_object-true o e.0 same);
          }
      by false same there rest =
          let r = rest there in
          let l = r.less in
          record {
            rest = rw (turned o e.0 false same, same) (ap (λ xs. as_entry e ∷ xs) r.rest);
            less = rw same (omega (arith, l));
            key = r.key;
          }

  -- a list with one element in front that has room
  front : {X : Type 0} (n : ℕ) (x : X) (xs : List X) → 1 ≤ n → take n (x ∷ xs) ≡ x ∷ take (n - 1) xs
  front zero x xs some = absurd (omega arith)
  front (suc n) x xs some = let less : suc n - 1 ≡ n = omega arith in rw less refl

  -- the table after a new state of the object was put in
  pub put : (c : lru.LruCache ObjectId StateAt) (h : StateAt) → 1 ≤ c.cap → length c.entries ≤ c.cap → entries_of (lru.put_entries same_object c o h) ≡ kept c.cap (as_entry (o, h)) (entries_of c.entries)
  put c h some few = by (lookup_entry (same_object o) c.entries) refl
    where
      by : (f : Option (ObjectId × StateAt)) → lookup_entry (same_object o) c.entries ≡ f → entries_of (option_map_or (λ e. (e.0, h) ∷ remove_entry (same_object o) c.entries) f ((o, h) ∷ take (c.cap - 1) c.entries)) ≡ kept c.cap (as_entry (o, h)) (entries_of c.entries)
      by None is = rw (none_gone c.entries is, front c.cap (as_entry (o, h)) (entries_of c.entries) some, take-map as_entry (c.cap - 1) c.entries) refl
      by (Some f) is =
          let gone = one_gone c.entries f is in
          let less = gone.less in
          let n : length (entries_of (remove_entry (same_object o) c.entries)) ≡ length (remove_entry (same_object o) c.entries) = length-map (remove_entry (same_object o) c.entries) as_entry in
          rw (gone.rest, front c.cap (as_entry (o, h)) (entries_of (remove_entry (same_object o) c.entries)) some, take_all (c.cap - 1) (entries_of (remove_entry (same_object o) c.entries)) (omega (arith, n, less)), gone.key) refl

  -- ---- the entry of the object, at whatever vector

  -- the first entry of the object
  found : (es : List (ObjectId × StateAt)) (h : StateAt) → lookup (same_object o) es ≡ Some h → first_that (is_of o) (entries_of es) ≡ Some (as_entry (o, h))
  found [] h is = absurd (none-some h is)
  found (e ∷ es) h is = by (same_object o e.0) refl is (found es h)
    where
      by : (b : Bool) → same_object o e.0 ≡ b → cond b (Some e.1) (lookup (same_object o) es) ≡ Some h → (lookup (same_object o) es ≡ Some h → first_that (is_of o) (entries_of es) ≡ Some (as_entry (o, h))) → first_that (is_of o) (entries_of (e ∷ es)) ≡ Some (as_entry (o, h))
      by true same there rest =
          let held : e.1 ≡ h = same_Some e.1 h there in
          let key : e.0 ≡ o = sym (same_object-true o e.0 same) in
          let one : e ≡ (o, h) = λ i. (key i, held i) in
          rw (turned o e.0 true same) (ap (λ x. Some (as_entry x)) one)
      by false same there rest = rw (turned o e.0 false same) (rest there)

  -- there is none where none is found
  none_found : (es : List (ObjectId × StateAt)) → lookup (same_object o) es ≡ None → first_that (is_of o) (entries_of es) ≡ None
  none_found [] is = refl
  none_found (e ∷ es) is = by (same_object o e.0) refl is (none_found es)
    where
      by : (b : Bool) → same_object o e.0 ≡ b → cond b (Some e.1) (lookup (same_object o) es) ≡ None → (lookup (same_object o) es ≡ None → first_that (is_of o) (entries_of es) ≡ None) → first_that (is_of o) (entries_of (e ∷ es)) ≡ None
      by true same none rest = absurd (none-some e.1 (sym none))
      by false same none rest = rw (turned o e.0 false same) (rest none)

  -- what is found is all that the cache has of the object
  pub peeked : (es : List (ObjectId × StateAt)) (h : StateAt) → IsDistinct same_object (keys_of es) → lookup (same_object o) es ≡ Some h → HasOnly o h.vector (entries_of es)
  peeked es h distinct is = record { state = h.state; entry = found es h is; only = λ w. by w (same_vector h.vector w) refl }
    where
      by : (w : List ℕ) (b : Bool) → same_vector h.vector w ≡ b → cached o w (entries_of es) ≡ cond b (Some h.state) None
      by w true at = ap (option_map (λ c. c.state)) (hit w es h is at).first
      by w false at = ap (option_map (λ c. c.state)) (missed w es distinct (ap (is_held_at w) is ∙ at))

  -- where nothing is found the cache has nothing of it
  pub peeked_none : (es : List (ObjectId × StateAt)) → IsDistinct same_object (keys_of es) → lookup (same_object o) es ≡ None → HasNone o (entries_of es)
  peeked_none es distinct is = record { entry = none_found es is; none = λ w. ap (option_map (λ c. c.state)) (missed w es distinct (ap (is_held_at w) is)) }

  -- the entries without that of the object
  pub without : (es : List (ObjectId × StateAt)) → forgotten o (entries_of es) ≡ entries_of (remove_entry (same_object o) es)
  without [] = refl
  without (e ∷ es) = by (same_object o e.0) refl (without es)
    where
      by : (b : Bool) → same_object o e.0 ≡ b → forgotten o (entries_of es) ≡ entries_of (remove_entry (same_object o) es) → forgotten o (entries_of (e ∷ es)) ≡ entries_of (remove_entry (same_object o) (e ∷ es))
      by true same rest = rw (turned o e.0 true same, same) refl
      by false same rest = rw (turned o e.0 false same, same) (ap (λ xs. as_entry e ∷ xs) rest)

  -- there is one exactly where one is found
  pub there_as : (es : List (ObjectId × StateAt)) → is_some (first_that (is_of o) (entries_of es)) ≡ is_some (lookup (same_object o) es)
  there_as [] = refl
  there_as (e ∷ es) = by (same_object o e.0) refl (there_as es)
    where
      by : (b : Bool) → same_object o e.0 ≡ b → is_some (first_that (is_of o) (entries_of es)) ≡ is_some (lookup (same_object o) es) → is_some (first_that (is_of o) (entries_of (e ∷ es))) ≡ is_some (cond b (Some e.1) (lookup (same_object o) es))
      by true same rest = rw (turned o e.0 true same) refl
      by false same rest = rw (turned o e.0 false same) rest

-- ---- an entry that is written over

module _ {K X : Type 0} (test : K → Bool) where
  -- what is found stands in an entry
  pub entry_found : (es : List (K × X)) (x : X) → lookup test es ≡ Some x → (k : K) × (lookup_entry test es ≡ Some (k, x))
  entry_found [] x is = absurd (none-some x is)
  entry_found (e ∷ es) x is = by (test e.0) is (entry_found es x)
    where
      by : (b : Bool) → cond b (Some e.1) (lookup test es) ≡ Some x → (lookup test es ≡ Some x → (k : K) × (lookup_entry test es ≡ Some (k, x))) → (k : K) × (cond b (Some e) (lookup_entry test es) ≡ Some (k, x))
      by true is rest = (e.0, ap (λ y. Some (e.0, y)) (same_Some e.1 x is))
      by false is rest = rest is

  -- the entry with the new value, and the others
  record Written (es : List (K × X)) (k : K) (w : X) : Type 0 where
    entry : lookup_entry test (set_value test es w) ≡ Some (k, w)
    rest : remove_entry test (set_value test es w) ≡ remove_entry test es

  written : (es : List (K × X)) (k : K) (x w : X) → lookup_entry test es ≡ Some (k, x) → Written es k w
  written [] k x w is = absurd (none-some (k, x) is)
  written (e ∷ es) k x w is = by (test e.0) refl is (written es k x w)
    where
      by : (b : Bool) → test e.0 ≡ b → cond b (Some e) (lookup_entry test es) ≡ Some (k, x) → (lookup_entry test es ≡ Some (k, x) → Written es k w) → Written (e ∷ es) k w
      by true at is rest = record { entry = rw (at, at) (ap (λ f. Some (f.0, w)) (same_Some e (k, x) is)); rest = rw (at, at) refl }
      by false at is rest =
          let r = rest is in
          record { entry = rw (at, at) r.entry; rest = rw (at, at) (ap (λ l. e ∷ l) r.rest) }

-- the table whose entry was written over and then used is the one into which the value was put
pub rewritten : (c : lru.LruCache ObjectId StateAt) (o : ObjectId) (h w : StateAt) → lookup (same_object o) c.entries ≡ Some h → lru.promoted (same_object o) (set_value (same_object o) c.entries w) ≡ lru.put_entries same_object c o w
rewritten c o h w is =
    let found = entry_found (same_object o) c.entries h is in
    let new = written (same_object o) c.entries found.0 h w found.1 in
    rw (new.entry, new.rest, found.1) refl

-- ---- an entry that is brought to a vector

-- what the cache has of an object at a vector is what is kept of it
kept_at : (o : ObjectId) (es : List (ObjectId × StateAt)) (from : List ℕ) (state : State) → IsDistinct same_object (keys_of es) → cached o from (entries_of es) ≡ Some state → (h : StateAt) × (lookup (same_object o) es ≡ Some h) × (h.state ≡ state)
kept_at o es from state distinct had = by (lookup (same_object o) es) refl
  where
    image : (f g : Option Cached) → f ≡ g → option_map (λ c. c.state) f ≡ Some state → option_map (λ c. c.state) g ≡ Some state
    image f g same is = ap (option_map (λ c. c.state)) (sym same) ∙ is

    at : (h : StateAt) → lookup (same_object o) es ≡ Some h → (b : Bool) → same_vector h.vector from ≡ b → h.state ≡ state
    at h is true there = same_Some h.state state (image _ _ (hit o from es h is there).first had)
    at h is false away = absurd (none-some state (image _ _ (missed o from es distinct (ap (is_held_at from) is ∙ away)) had))

    by : (f : Option StateAt) → lookup (same_object o) es ≡ f → (h : StateAt) × (lookup (same_object o) es ≡ Some h) × (h.state ≡ state)
    by None is = absurd (none-some state (image _ _ (missed o from es distinct (ap (is_held_at from) is)) had))
    by (Some h) is = (h, is, at h is (same_vector h.vector from) refl)

-- the table whose entry was brought to a vector
pub brought : (c : lru.LruCache ObjectId StateAt) (new : List (ObjectId × StateAt)) (o : ObjectId) (w : List ℕ) (tail : List (Mark × Op)) → IsDistinct same_object (keys_of c.entries) → 1 ≤ c.cap → length c.entries ≤ c.cap → ((h : StateAt) → lookup (same_object o) c.entries ≡ Some h → new ≡ lru.put_entries same_object c o (record { vector = w; state = fold_of h.state tail })) → (from : List ℕ) (state : State) → cached o from (entries_of c.entries) ≡ Some state → entries_of new ≡ kept c.cap (record { object = o; vector = w; state = fold_of state tail }) (entries_of c.entries)
brought c new o w tail distinct some few is from state had =
    let k = kept_at o c.entries from state distinct had in
    ap entries_of (is k.0 k.1) ∙ (put o c (record { vector = w; state = fold_of k.0.state tail }) some few ∙ ap (λ s. kept c.cap (record { object = o; vector = w; state = fold_of s tail }) (entries_of c.entries)) k.2)
