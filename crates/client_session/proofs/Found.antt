-- States that are kept in the order of their last use, found by their objects.
use Rattle.std.proofs.Common.{◌≡◌, ◌<◌, ◌⊎◌, inl, inr, ℕ, zero, suc, ◌+◌, ◌-◌, length, get_or, Bool, true, false, cond, List, [], ◌∷◌, take, All, Option, Some, None, IsSome, refl, sym, ap, ◌∙◌, subst}
use Rattle.std.specs.Prelude.{flat_map}
use Rattle.std.specs.Option.{option_map_or}
use Rattle.std.specs.Map.{keys_of, lookup, lookup_entry, remove_entry, set_value}
use Rattle.std.specs.List.{IsDistinct}
use Rattle.std.proofs.lemmas.Bool.{cases_Bool, false≢true}
use Rattle.std.proofs.lemmas.Option.{none-some, same_Some}
use Rattle.std.proofs.lemmas.List.Elements.{All-head, All-tail, All-more}
use Rattle.std.proofs.lemmas.List.Sums.{fold-append}
use Rattle.std.proofs.lemmas.Map.{lookup-set_value, lookup-remove_entry}
use Rattle.lru.specs.LruCache.{LruCache, promoted, put_entries}
use Rattle.lru.proofs.CallerLemmas.{Contains-lookup_entry, lookup-put_entries}
use Rattle.ids_core.specs.declared.ids.Dot.{Dot}
use Rattle.ids_core.specs.declared.object.ObjectId.{ObjectId}
use Rattle.ids_core.specs.Ids.{same_object}
use Rattle.ids_core.specs.Same.{same_object-true, same_object_equivalence}
use Rattle.tx_core.specs.declared.tx.Update.{Update}
use Rattle.tx_core.specs.declared.tx.Tx.{Tx}
use Rattle.tx_core.specs.declared.state.State.{State}
use Rattle.tx_core.specs.States.{step, fold_of}
use Rattle.tx_core.specs.Operations.{ops_from, ops_of}
use Rattle.client_session.specs.Folded.{ops_behind}

-- a test for one object tells what it is the same as
pub one_object : (k x y : ObjectId) → same_object k x ≡ true → same_object k y ≡ same_object x y
one_object = same_object_equivalence.congr

-- what differs from an object differs from what is the same as that
apart_from : (k o e : ObjectId) → same_object k o ≡ false → same_object k e ≡ true → same_object o e ≡ false
apart_from k o e apart same = same_object_equivalence.symm o e ∙ (sym (one_object k e o same) ∙ apart)

-- where no update is on the object, it has no operation
pub no_ops_from : (o : ObjectId) (rank : ℕ) (dot : Dot) (place : ℕ) (us : List Update) → All (λ u. same_object u.object o ≡ false) us → ops_from o rank dot place us ≡ []
no_ops_from o rank dot place [] none = refl
no_ops_from o rank dot place (u ∷ us) none =
    let head = All-head (λ u. same_object u.object o ≡ false) u us none in
    rw head (no_ops_from o rank dot (place + 1) us (All-tail (λ u. same_object u.object o ≡ false) u us none))

-- nor has it one behind commits that do not change it
pub none_behind : (o : ObjectId) (pending : List Tx) (rank : ℕ) (dot : Dot) (us : List Update) → flat_map (ops_of o) pending ≡ [] → All (λ u. same_object u.object o ≡ false) us → ops_behind o pending rank dot us ≡ []
none_behind o pending rank dot us none apart = rw (none, no_ops_from o rank dot 0 us apart) refl

-- the fold of what is behind, in two parts
pub fold_behind : (o : ObjectId) (pending : List Tx) (rank : ℕ) (dot : Dot) (us : List Update) (base : State) → fold_of (fold_of base (flat_map (ops_of o) pending)) (ops_from o rank dot 0 us) ≡ fold_of base (ops_behind o pending rank dot us)
fold_behind o pending rank dot us base = sym (fold-append step base (flat_map (ops_of o) pending) (ops_from o rank dot 0 us))

module _ {X : Type 0} where
  moved : (k o : ObjectId) (es : List (ObjectId × X)) (e : ObjectId × X) → lookup_entry (same_object k) es ≡ Some e → cond (same_object o e.0) (Some e.1) (lookup (same_object o) (remove_entry (same_object k) es)) ≡ lookup (same_object o) es
  moved k o [] e is = absurd (none-some e is)
  moved k o (f ∷ es) e is = by (same_object k f.0) refl is (moved k o es e)
    where
      -- of two objects that differ in whether they are k, one at most is o
      past : (b d : Bool) → same_object o e.0 ≡ b → same_object o f.0 ≡ d → same_object k e.0 ≡ true → same_object k f.0 ≡ false → (rest other : Option X) → cond b (Some e.1) rest ≡ other → cond b (Some e.1) (cond d (Some f.1) rest) ≡ cond d (Some f.1) other
      past b false be df ke kf rest other same = same
      past false true be df ke kf rest other same = refl
      past true true be df ke kf rest other same =
          let ko : same_object k o ≡ false = ap (λ p. same_object k p) (same_object-true o f.0 df) ∙ kf in
          absurd (false≢true (sym (apart_from k o e.0 ko ke) ∙ be))

      by : (b : Bool) → same_object k f.0 ≡ b → cond b (Some f) (lookup_entry (same_object k) es) ≡ Some e → (lookup_entry (same_object k) es ≡ Some e → cond (same_object o e.0) (Some e.1) (lookup (same_object o) (remove_entry (same_object k) es)) ≡ lookup (same_object o) es) → cond (same_object o e.0) (Some e.1) (lookup (same_object o) (cond b es (f ∷ remove_entry (same_object k) es))) ≡ lookup (same_object o) (f ∷ es)
      by true same found rest = ap (λ p. cond (same_object o p.0) (Some p.1) (lookup (same_object o) es)) (sym (same_Some f e found))
      by false apart found rest = past (same_object o e.0) (same_object o f.0) refl refl (Contains-lookup_entry (same_object k) es e found).1 apart _ _ (rest found)

  -- each object is found as before, whichever was used last
  pub lookup-promoted : (k o : ObjectId) (es : List (ObjectId × X)) → lookup (same_object o) (promoted (same_object k) es) ≡ lookup (same_object o) es
  lookup-promoted k o es = by (lookup_entry (same_object k) es) refl
    where
      by : (e : Option (ObjectId × X)) → lookup_entry (same_object k) es ≡ e → lookup (same_object o) (option_map_or (λ e. e ∷ remove_entry (same_object k) es) e es) ≡ lookup (same_object o) es
      by None is = refl
      by (Some e) is = moved k o es e is

  -- what is found among the first was found among all
  among : (o : ObjectId) (n : ℕ) (es : List (ObjectId × X)) (x : X) → lookup (same_object o) (take n es) ≡ Some x → lookup (same_object o) es ≡ Some x
  among o zero es x is = absurd (none-some x is)
  among o (suc n) [] x is = is
  among o (suc n) (e ∷ es) x is = by (same_object o e.0) is (among o n es x)
    where
      by : (b : Bool) → cond b (Some e.1) (lookup (same_object o) (take n es)) ≡ Some x → (lookup (same_object o) (take n es) ≡ Some x → lookup (same_object o) es ≡ Some x) → cond b (Some e.1) (lookup (same_object o) es) ≡ Some x
      by true is rest = is
      by false is rest = rest is

  -- what is found of other objects once a state was put in, was found before
  pub lookup-put : (c : LruCache ObjectId X) (k o : ObjectId) (v x : X) → same_object k o ≡ false → lookup (same_object o) (put_entries same_object c k v) ≡ Some x → lookup (same_object o) c.entries ≡ Some x
  lookup-put c k o v x apart is = by (lookup_entry (same_object k) c.entries) refl is
    where
      by : (f : Option (ObjectId × X)) → lookup_entry (same_object k) c.entries ≡ f → lookup (same_object o) (option_map_or (λ e. (e.0, v) ∷ remove_entry (same_object k) c.entries) f ((k, v) ∷ take (c.cap - 1) c.entries)) ≡ Some x → lookup (same_object o) c.entries ≡ Some x
      by None none is = among o (c.cap - 1) c.entries x (ap (λ b. cond b (Some v) (lookup (same_object o) (take (c.cap - 1) c.entries))) (sym (same_object_equivalence.symm o k ∙ apart)) ∙ is)
      by (Some e) there is =
          let other : same_object o e.0 ≡ false = apart_from k o e.0 apart (Contains-lookup_entry (same_object k) c.entries e there).1 in
          let rest = lookup (same_object o) (remove_entry (same_object k) c.entries) in
          let left : rest ≡ Some x = ap (λ b. cond b (Some v) rest) (sym other) ∙ is in
          sym (moved k o c.entries e there) ∙ (ap (λ b. cond b (Some e.1) rest) other ∙ left)

  -- and the one that was put in is found
  pub lookup-put-own : (c : LruCache ObjectId X) (k : ObjectId) (v : X) → lookup (same_object k) (put_entries same_object c k v) ≡ Some v
  lookup-put-own c k v = lookup-put_entries same_object c k v same_object_equivalence

  -- what is found once an entry was taken out
  pub lookup-gone : (k o : ObjectId) (es : List (ObjectId × X)) → IsDistinct same_object (keys_of es) → lookup (same_object o) (remove_entry (same_object k) es) ≡ cond (same_object k o) None (lookup (same_object o) es)
  lookup-gone k o es distinct = lookup-remove_entry same_object_equivalence (same_object k) (one_object k) o es distinct

  -- what is found once a state was written over
  pub lookup-written : (k o : ObjectId) (es : List (ObjectId × X)) (w : X) → IsSome (lookup (same_object k) es) → lookup (same_object o) (set_value (same_object k) es w) ≡ cond (same_object k o) (Some w) (lookup (same_object o) es)
  lookup-written k o es w there = lookup-set_value same_object_equivalence (same_object k) (one_object k) o w es there

-- one update more whose object's state was let go
pub one_let_go : {X : Type 0} (us : List Update) (i : ℕ) (u : Update) (first old new : List (ObjectId × X)) → i < length us → u ≡ get_or us i u → ((o : ObjectId) (x : X) → lookup (same_object o) old ≡ Some x → (lookup (same_object o) first ≡ Some x) × All (λ u. same_object u.object o ≡ false) (take i us)) → lookup (same_object u.object) new ≡ None → ((o : ObjectId) → same_object u.object o ≡ false → lookup (same_object o) new ≡ lookup (same_object o) old) → (o : ObjectId) (x : X) → lookup (same_object o) new ≡ Some x → (lookup (same_object o) first ≡ Some x) × All (λ u. same_object u.object o ≡ false) (take (i + 1) us)
one_let_go us i u first old new small is before gone apart o x there = at (cases_Bool (same_object u.object o))
  where
    at : (same_object u.object o ≡ true) ⊎ (same_object u.object o ≡ false) → (lookup (same_object o) first ≡ Some x) × All (λ u. same_object u.object o ≡ false) (take (i + 1) us)
    at (inl e) = absurd (none-some x (sym (subst (λ q. lookup (same_object q) new ≡ None) (same_object-true u.object o e) gone) ∙ there))
    at (inr e) =
        let b = before o x (sym (apart o e) ∙ there) in
        (b.0, All-more (λ u. same_object u.object o ≡ false) us i u small b.1 (subst (λ v. same_object v.object o ≡ false) is e))
